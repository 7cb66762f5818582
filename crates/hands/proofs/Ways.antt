-- What a carry answers on each of its ways.
use Rattle.std.proofs.Common.{◌≡◌, ℕ, ◌<◌, Bool, true, false, eqb, ◌≢◌, List, length, set, Some, None, Ok, Option, refl, arith}
use Rattle.std.proofs.lemmas.Option.{slice_get_within}
use Rattle.std.proofs.lemmas.Bool.{ne_eqb, eqb-false, cond_both}
use Rattle.std.specs.List.{slice_get}
use Rattle.hands.specs.Kind.{Kind}
use Rattle.hands.specs.Carry.{Outcome, between, carried, refused}
use Rattle.hands.specs.declared.fault.CarryRefusal.{CarryRefusal}
use Rattle.hands.specs.declared.fault.CarryRefusal.TheVariants.{OutsideRow, SameHand, CannotGive, CannotTake}

-- a carry that nothing stands against
pub granted : {H L : Type 0} (k : Kind H L) (row : List H) (i j : ℕ) (l : L) (a b : H) → slice_get row i ≡ Some a → slice_get row j ≡ Some b → i ≢ j → k.can_give a l ≡ true → k.can_take b l ≡ true → carried k row i j l ≡ (Ok tt, set (set row i (k.given a l)) j (k.taken b l))
granted k row i j l a b p q ne g t = rw (p, q, ne_eqb i j ne, g, t)

-- each way of a carry: what holds of every refusal, and of the load moved, holds of the outcome
module _ {H L : Type 0} (k : Kind H L) (row : List H) (i j : ℕ) (l : L) (P : Outcome H → Type 0)
    (not_moved : (why : CarryRefusal) → P (refused row i j why))
    (is_moved : (a b : H) → slice_get row i ≡ Some a → slice_get row j ≡ Some b → i ≢ j → k.can_give a l ≡ true → k.can_take b l ≡ true → P (Ok tt, set (set row i (k.given a l)) j (k.taken b l))) where
  by_hands : (a b : Option H) (alike : Bool) → slice_get row i ≡ a → slice_get row j ≡ b → eqb i j ≡ alike → P (between k row i j l a b alike)
  by_hands None b alike p q e = not_moved OutsideRow
  by_hands (Some a) None alike p q e = not_moved OutsideRow
  by_hands (Some a) (Some b) true p q e = not_moved SameHand
  by_hands (Some a) (Some b) false p q e =
      cond_both (k.can_give a l) _ _ P
      (λ g. cond_both (k.can_take b l) _ _ P (λ t. is_moved a b p q (eqb-false i j e) g t) (λ _. not_moved CannotTake))
      (λ _. not_moved CannotGive)

  pub by_ways : P (carried k row i j l)
  by_ways = by_hands (slice_get row i) (slice_get row j) (eqb i j) refl refl refl

module _ {H L : Type 0} (k : Kind H L) (row : List H) (i j : ℕ) (l : L) where
  -- where nothing refuses, both places are in the row
  module _ (ok : (carried k row i j l).0 ≡ Ok tt) where
    abbrev WhenMoved : Type 0 → Outcome H → Type 0
    WhenMoved P o = o.0 ≡ Ok tt → P

    never : {P : Type 0} (why : CarryRefusal) → (refused row i j why).0 ≡ Ok tt → P
    never why e = let z : ◌≡◌ {A = ℕ} 0 1 = cc in absurd (omega arith)

    pub giver_inside : i < length row
    giver_inside = by_ways k row i j l (WhenMoved (i < length row)) never (λ a b p q ne g t e. slice_get_within row i a p) ok

    pub receiver_inside : j < length row
    receiver_inside = by_ways k row i j l (WhenMoved (j < length row)) never (λ a b p q ne g t e. slice_get_within row j b q) ok
