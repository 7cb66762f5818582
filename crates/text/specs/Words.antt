-- Numbers as words: one or more decimal digits, and nothing else. Too large a number counts as the largest of 32 bits.
use Rattle.std.specs.Prelude.{ℕ, ◌+◌, ◌-◌, ◌*◌, min, cond, ◌&&◌, List, [], ◌∷◌, Some, None, Option, nat_le}

-- the digits that follow those of n
abbrev pub digits_after : ℕ → List ℕ → Option ℕ
digits_after n [] = Some n
digits_after n (b ∷ bs) = cond (nat_le 48 b && nat_le b 57) (digits_after (min 4294967295 (n * 10 + (b - 48))) bs) None

abbrev pub word_value : List ℕ → Option ℕ
word_value [] = None
word_value (b ∷ bs) = digits_after 0 (b ∷ bs)
