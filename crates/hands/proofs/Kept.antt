-- A carry keeps the total of each tag, and every hand but two.
use Rattle.std.proofs.Common.{◌≡◌, ℕ, zero, suc, true, ◌≢◌, List, [], ◌∷◌, set, ◌+ℤ◌, Some, sym, refl, ap, ◌∙◌, arith}
use Rattle.std.proofs.lemmas.Int.{ints}
use Rattle.std.specs.List.{slice_get}
use Rattle.hands.specs.Kind.{Kind}
use Rattle.hands.specs.Carry.{carried}
use Rattle.hands.specs.Tallies.{Tallies, TallyLaws}
use Rattle.hands.specs.Totals.{total, TotalsKept, ElsewhereSame}
use Rattle.hands.proofs.Ways.{by_ways}

pub nth_set_other : {H : Type 0} (xs : List H) (i j : ℕ) (y : H) → i ≢ j → slice_get (set xs i y) j ≡ slice_get xs j
nth_set_other [] i j y ne = refl
nth_set_other (h ∷ hs) zero zero y ne = absurd (ne refl)
nth_set_other (h ∷ hs) zero (suc j) y ne = refl
nth_set_other (h ∷ hs) (suc i) zero y ne = refl
nth_set_other (h ∷ hs) (suc i) (suc j) y ne = nth_set_other hs i j y (λ e. ne (ap suc e))

pub total_set : {H L : Type 0} (t : Tallies H L) (tag : ℕ) (xs : List H) (i : ℕ) (x y : H) → slice_get xs i ≡ Some x → total t (set xs i y) tag +ℤ t.tally x tag ≡ total t xs tag +ℤ t.tally y tag
total_set t tag [] i x y e = let z : ◌≡◌ {A = ℕ} 0 1 = cc in absurd (omega arith)
total_set t tag (h ∷ hs) zero x y e = let f : h ≡ x = cc in let g = ap (λ z. t.tally z tag) f in omega (arith, ints)
total_set t tag (h ∷ hs) (suc i) x y e = let r = total_set t tag hs i x y e in omega (arith, ints)

module _ {H L : Type 0} (k : Kind H L) (row : List H) (i j : ℕ) (l : L) where
  -- what holds of the row as it was, and of the row with the load moved, holds after a carry
  after_carry : (P : List H → Type 0) → P row → ((a b : H) → slice_get row i ≡ Some a → slice_get row j ≡ Some b → i ≢ j → k.can_give a l ≡ true → k.can_take b l ≡ true → P (set (set row i (k.given a l)) j (k.taken b l)))
      → P (carried k row i j l).1
  after_carry P kept moved = by_ways k row i j l (λ o. P o.1) (λ _. kept) moved

  pub elsewhere_same : ElsewhereSame i j row (carried k row i j l).1
  elsewhere_same p ni nj =
      after_carry (λ r. slice_get r p ≡ slice_get row p) refl
      (λ a b _ _ _ _ _. nth_set_other (set row i (k.given a l)) j p (k.taken b l) (λ e. nj (sym e)) ∙ nth_set_other row i p (k.given a l) (λ e. ni (sym e)))

  pub totals_kept : (t : Tallies H L) → TallyLaws k t → TotalsKept t row (carried k row i j l).1
  totals_kept t laws tag =
      after_carry (λ r. total t r tag ≡ total t row tag) refl
      (λ a b p q ne g s.
      let one = total_set t tag row i a (k.given a l) p in
      let two = total_set t tag (set row i (k.given a l)) j b (k.taken b l) (nth_set_other row i j (k.given a l) ne ∙ q) in
      let low = laws.lowers a l tag g in
      let high = laws.raises b l tag s in
      omega (arith, ints))
