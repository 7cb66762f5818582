-- Appends, cut at the capacity: one after another, where all fits, and where some is cut off.
use Rattle.std.proofs.Common.{◌≡◌, ℕ, zero, suc, ◌+◌, ◌-◌, ◌≤◌, min, List, [], ◌∷◌, ◌++◌, length, take, drop, sym, refl, ap, ◌∙◌, ⊎_elim, append_assoc, arith, length-append}
use Rattle.std.proofs.lemmas.List.{length-take, length-take-le, take_all, take-append-drop, take_at}
use Rattle.std.proofs.lemmas.Bool.{cases_lt}
use Rattle.text.specs.Text.{added, shown}
use Rattle.text.specs.declared.text.Text.{Text}

-- a text never passes the capacity
pub shown_bound : (t : Text) → length (shown t) ≤ 512
shown_bound t = omega (arith, length-take t.len t.bytes, t.within)

pub added_fits : (xs ys : List ℕ) → length xs + length ys ≤ 512 → added xs ys ≡ xs ++ ys
added_fits xs ys h = take_all 512 (xs ++ ys) (omega (arith, length-append xs ys))

take_take_append : (n : ℕ) (xs ys : List ℕ) → take n (take n xs ++ ys) ≡ take n (xs ++ ys)
take_take_append zero xs ys = refl
take_take_append (suc n) [] ys = refl
take_take_append (suc n) (x ∷ xs) ys = ap (λ l. x ∷ l) (take_take_append n xs ys)

-- two appends are one of both pieces
pub added_added : (xs a b : List ℕ) → added (added xs a) b ≡ added xs (a ++ b)
added_added xs a b = take_take_append 512 (xs ++ a) b ∙ ap (take 512) (append_assoc xs a b)

-- the same, of the texts after each append
pub added_then : (xs ys zs a b : List ℕ) → ys ≡ added xs a → zs ≡ added ys b → zs ≡ added xs (a ++ b)
added_then xs ys zs a b e f = f ∙ ap (λ l. added l b) e ∙ added_added xs a b

added_front : (xs ys : List ℕ) (n : ℕ) → n ≤ length ys → length xs + n ≡ 512 → added xs ys ≡ xs ++ take n ys
added_front xs ys n h e =
    ap (λ l. take 512 (xs ++ l)) (sym (take-append-drop n ys))
    ∙ ap (take 512) (sym (append_assoc xs (take n ys) (drop n ys)))
    ∙ take_at (xs ++ take n ys) (drop n ys) 512 (length-append xs (take n ys) ∙ omega (arith, length-take-le n ys h))

-- an append takes as much of the piece as there is room for
pub added_cut : (xs ys : List ℕ) (n : ℕ) → length xs ≤ 512 → n ≡ min (length ys) (512 - length xs) → added xs ys ≡ xs ++ take n ys
added_cut xs ys n h e =
    ⊎_elim
    (λ over. added_front xs ys n (omega arith) (omega arith))
    (λ fits. added_fits xs ys (omega arith) ∙ ap (λ l. xs ++ l) (sym (take_all n ys (omega arith))))
    (cases_lt (512 - length xs) (length ys))
