-- What `1..=n` yields, as a list.
use Rattle.std.proofs.Common.{◌≡◌, ℕ, suc, ◌+◌, ◌-◌, Bool, true, false, List, ◌∷◌, length, Some, None, refl, sym, ap, subst, ◌∙◌, arith}
use Rattle.std.specs.Iterator.{AlwaysYields}
use Rattle.std.specs.List.{range_with_len}
use Rattle.std.specs.Range.{range_inclusive_len, range_inclusive_start, range_inclusive_end, range_inclusive_exhausted}
use Rattle.std.specs.declared.ops.RangeInclusive.{RangeInclusive}
use Rattle.std.proofs.iter.Yields.{listed}
use Rattle.std.proofs.iter.runs.Sources.{nat_range_inclusive_steps}
use Rattle.std.proofs.lemmas.Iterator.{YieldsList}

abbrev span : RangeInclusive ℕ → ℕ
span s = range_inclusive_len (λ x y. y - x) (range_inclusive_start s) (range_inclusive_end s) (range_inclusive_exhausted s)

abbrev left : RangeInclusive ℕ → List ℕ
left s = range_with_len (range_inclusive_start s) (span s)

stop : (s t : RangeInclusive ℕ) → nat_range_inclusive_steps s None t → length (left s) ≡ 0
stop s t h = ap (λ n. length (range_with_len (range_inclusive_start s) n)) h.1.0

go : (s : RangeInclusive ℕ) (x : ℕ) (t : RangeInclusive ℕ) → nat_range_inclusive_steps s (Some x) t → left s ≡ x ∷ left t
go s x t h =
    let more : span s ≡ suc (span t) = omega (arith, h.1.1) in
    ap (range_with_len (range_inclusive_start s)) more
    ∙ ap {B = List ℕ} (λ l. range_inclusive_start s ∷ l) (rest (range_inclusive_exhausted t) refl)
    ∙ ap {B = List ℕ} (λ y. y ∷ left t) (sym h.1.0)
  where
    rest : (b : Bool) → range_inclusive_exhausted t ≡ b → range_with_len (range_inclusive_start s + 1) (span t) ≡ left t
    rest false e = ap (λ a. range_with_len a (span t)) (sym (h.1.2 e))
    rest true e =
        let none : span t ≡ 0 = ap (range_inclusive_len (λ x y. y - x) (range_inclusive_start t) (range_inclusive_end t)) e in
        ap (range_with_len (range_inclusive_start s + 1)) none ∙ sym (ap (range_with_len (range_inclusive_start t)) none)

pub counted : {s t : RangeInclusive ℕ} (n : ℕ) → s ≡ t → range_inclusive_start t ≡ 1 → range_inclusive_end t ≡ n → range_inclusive_exhausted t ≡ false → YieldsList nat_range_inclusive_steps (λ x. x) s (range_with_len 1 n)
counted {s} n same one end whole =
    let first = ap range_inclusive_start same ∙ one in
    let last = ap range_inclusive_end same ∙ end in
    let fresh = ap range_inclusive_exhausted same ∙ whole in
    let all : span s ≡ range_inclusive_end s - range_inclusive_start s + 1 - (range_inclusive_start s - range_inclusive_end s) = ap (range_inclusive_len (λ x y. y - x) (range_inclusive_start s) (range_inclusive_end s)) fresh in
    let long : span s ≡ n = omega (arith, all, first, last) in
    record { runs = subst (AlwaysYields nat_range_inclusive_steps (λ x. x) s) (ap (λ a. range_with_len a (span s)) first ∙ ap (range_with_len 1) long) (listed nat_range_inclusive_steps (λ x. x) left stop go s) }
