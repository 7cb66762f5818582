-- A carry: what it answers, and the row that it leaves.
use Rattle.std.specs.Prelude.{ℕ, Bool, true, false, cond, List, Some, None, Ok, Err, Option, Result, ◌==◌, slice_set}
use Rattle.std.specs.List.{slice_get}
use Rattle.hands.specs.Kind.{Kind}
use Rattle.hands.specs.declared.fault.CarryFault.{CarryFault}
use Rattle.hands.specs.declared.fault.CarryRefusal.{CarryRefusal}
use Rattle.hands.specs.declared.fault.CarryRefusal.TheVariants.{OutsideRow, SameHand, CannotGive, CannotTake}

-- an answer, and the row after it
abbrev pub Outcome : Type 0 → Type 0
Outcome H = Result (Unit {0}) CarryFault × List H

-- a refusal keeps both places, and leaves the row as it was
abbrev pub refused : {H : Type 0} → List H → ℕ → ℕ → CarryRefusal → Outcome H
refused row giver receiver why = (Err (record { refusal = why; giver = giver; receiver = receiver }), row)

-- the hands at the two places, if the row has them, and whether the places are the same
abbrev pub between : {H L : Type 0} → Kind H L → List H → ℕ → ℕ → L → Option H → Option H → Bool → Outcome H
between k row i j l None b same = refused row i j OutsideRow
between k row i j l (Some a) None same = refused row i j OutsideRow
between k row i j l (Some a) (Some b) true = refused row i j SameHand
between k row i j l (Some a) (Some b) false =
    cond (k.can_give a l)
    (cond (k.can_take b l) (Ok tt, slice_set (slice_set row i (k.given a l)) j (k.taken b l)) (refused row i j CannotTake))
    (refused row i j CannotGive)

abbrev pub carried : {H L : Type 0} → Kind H L → List H → ℕ → ℕ → L → Outcome H
carried k row i j l = between k row i j l (slice_get row i) (slice_get row j) (i == j)
