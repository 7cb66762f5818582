use Rattle.std.proofs.Common.{pos, ◌+ℤ◌, sym, refl, arith}
use Rattle.std.proofs.lemmas.Int.{ints}
use Rattle.kinds.specs.Cash.{le_from}
use Rattle.kinds.specs.Marks.{is_taken, floor_range}
use Rattle.kinds.proofs.cash.hand.CashHand.take.Goals as goal

pub returns-then-can_take : goal.returns-then-can_take
returns-then-can_take c =
    let s = c.args.self.now in
    let n = c.args.load in
    let range = floor_range s.floor in
    let fits = le_from (s.marks +ℤ pos n) (pos 1000000) (sym c.if-can_take.ensures) in
    is_taken s _ n c.if-can_take.ensures (omega (arith, ints)) refl
