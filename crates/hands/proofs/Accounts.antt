-- What a granted carry does to each hand of the row, tag by tag.
use Rattle.std.proofs.Common.{◌≡◌, ℕ, ◌<◌, true, cond, eqb, ◌≢◌, List, get_or, set, pos, ◌+ℤ◌, ◌-ℤ◌, Some, Ok, sym, refl, ap, ◌∙◌, subst, ⊎_elim, arith, length-set, get_or-set_other, get_or-set_same}
use Rattle.std.proofs.lemmas.Int.{ints}
use Rattle.std.proofs.lemmas.Bool.{eq-eqb, ne_eqb, cases_eq}
use Rattle.std.specs.List.{slice_get}
use Rattle.std.proofs.lemmas.Option.{get_or_from_slice_get, slice_get_within}
use Rattle.hands.specs.Kind.{Kind}
use Rattle.hands.specs.Carry.{Outcome, carried}
use Rattle.hands.specs.Tallies.{Tallies, TallyLaws}
use Rattle.hands.proofs.Ways.{by_ways}

module _ {H L : Type 0} (k : Kind H L) (t : Tallies H L) (laws : TallyLaws k t) (row : List H) (i j : ℕ) (l : L) where
  -- what a hand gets and gives in the carry
  abbrev pub gets : ℕ → ℕ → ℕ
  gets p tag = cond (eqb p j) (t.amount l tag) 0

  abbrev pub gives : ℕ → ℕ → ℕ
  gives p tag = cond (eqb p i) (t.amount l tag) 0

  module _ (d : H) (tag : ℕ) where
    abbrev Told : Outcome H → ℕ → Type 0
    Told o p = t.tally (get_or o.1 p d) tag ≡ t.tally (get_or row p d) tag +ℤ pos (gets p tag) -ℤ pos (gives p tag)

    module _ (a b : H) (at_i : slice_get row i ≡ Some a) (at_j : slice_get row j ≡ Some b) (ne : i ≢ j) (can : k.can_give a l ≡ true) (may : k.can_take b l ≡ true) where
      abbrev next : List H
      next = set (set row i (k.given a l)) j (k.taken b l)

      at_giver : Told (Ok tt, next) i
      at_giver =
          let read = get_or-set_other (set row i (k.given a l)) j i (k.taken b l) d ne ∙ get_or-set_same row i (k.given a l) d (slice_get_within row i a at_i) in
          let low = ap (λ h. t.tally h tag) read ∙ laws.lowers a l tag can in
          let was = ap (λ h. t.tally h tag) (get_or_from_slice_get row i a d at_i) in
          rw (ne_eqb i j ne, eq-eqb i i refl) (omega (arith, ints, low, was))

      at_receiver : Told (Ok tt, next) j
      at_receiver =
          let read = get_or-set_same (set row i (k.given a l)) j (k.taken b l) d (subst (λ n. j < n) (sym (length-set row i (k.given a l))) (slice_get_within row j b at_j)) in
          let high = ap (λ h. t.tally h tag) read ∙ laws.raises b l tag may in
          let was = ap (λ h. t.tally h tag) (get_or_from_slice_get row j b d at_j) in
          rw (eq-eqb j j refl, ne_eqb j i (λ e. ne (sym e))) (omega (arith, ints, high, was))

      elsewhere : (p : ℕ) → p ≢ i → p ≢ j → Told (Ok tt, next) p
      elsewhere p ni nj =
          let read = get_or-set_other (set row i (k.given a l)) j p (k.taken b l) d nj ∙ get_or-set_other row i p (k.given a l) d ni in
          let same = ap (λ h. t.tally h tag) read in
          rw (ne_eqb p j nj, ne_eqb p i ni) (omega (arith, ints, same))

      everywhere : (p : ℕ) → Told (Ok tt, next) p
      everywhere p =
          ⊎_elim (λ e. subst (λ n. Told (Ok tt, next) n) (sym e) at_giver)
          (λ ni. ⊎_elim (λ e. subst (λ n. Told (Ok tt, next) n) (sym e) at_receiver) (λ nj. elsewhere p ni nj) (cases_eq p j))
          (cases_eq p i)

    pub granted_tally : (carried k row i j l).0 ≡ Ok tt → (p : ℕ) → Told (carried k row i j l) p
    granted_tally ok p =
        by_ways k row i j l (λ o. o.0 ≡ Ok tt → Told o p)
        (λ why e. let z : ◌≡◌ {A = ℕ} 0 1 = cc in absurd (omega arith))
        (λ a b at_i at_j ne can may _. everywhere a b at_i at_j ne can may p)
        ok
