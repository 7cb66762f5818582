-- A carry keeps the row's length and every floor.
use Rattle.std.proofs.Common.{◌≡◌, ℕ, ◌<◌, List, length, get_or, set, sym, refl, ap, ◌∙◌, subst, ⊎_elim, length-set, get_or-set_other, get_or-set_same}
use Rattle.std.proofs.lemmas.Bool.{cases_eq}
use Rattle.std.proofs.lemmas.Option.{get_or_from_slice_get, slice_get_within}
use Rattle.hands.specs.Kind.{Kind}
use Rattle.hands.specs.Carry.{carried}
use Rattle.hands.proofs.Ways.{by_ways}

module _ {H L : Type 0} (k : Kind H L) (row : List H) (i j : ℕ) (l : L) where
  pub same_length : length (carried k row i j l).1 ≡ length row
  same_length =
      by_ways k row i j l (λ o. length o.1 ≡ length row) (λ why. refl)
      (λ a b _ _ _ _ _. length-set (set row i (k.given a l)) j (k.taken b l) ∙ length-set row i (k.given a l))

  -- what given and taken keep of a hand, a carry keeps of each hand of the row
  pub keeps : {X : Type 0} (f : H → X) → ((h : H) → f (k.given h l) ≡ f h) → ((h : H) → f (k.taken h l) ≡ f h) → (d : H) (p : ℕ) → f (get_or (carried k row i j l).1 p d) ≡ f (get_or row p d)
  keeps f gave took d p =
      by_ways k row i j l (λ o. f (get_or o.1 p d) ≡ f (get_or row p d)) (λ why. refl)
      (λ a b at_i at_j ne _ _.
      ⊎_elim
      (λ e.
      ap (λ n. f (get_or (set (set row i (k.given a l)) j (k.taken b l)) n d)) e
      ∙ ap f (get_or-set_same (set row i (k.given a l)) j (k.taken b l) d (subst (λ n. j < n) (sym (length-set row i (k.given a l))) (slice_get_within row j b at_j)))
      ∙ took b
      ∙ ap f (sym (get_or_from_slice_get row j b d at_j))
      ∙ ap (λ n. f (get_or row n d)) (sym e))
      (λ nj.
      ap f (get_or-set_other (set row i (k.given a l)) j p (k.taken b l) d nj)
      ∙ ⊎_elim
      (λ e.
      ap (λ n. f (get_or (set row i (k.given a l)) n d)) e
      ∙ ap f (get_or-set_same row i (k.given a l) d (slice_get_within row i a at_i))
      ∙ gave a
      ∙ ap f (sym (get_or_from_slice_get row i a d at_i))
      ∙ ap (λ n. f (get_or row n d)) (sym e))
      (λ ni. ap f (get_or-set_other row i p (k.given a l) d ni))
      (cases_eq p i))
      (cases_eq p j))
