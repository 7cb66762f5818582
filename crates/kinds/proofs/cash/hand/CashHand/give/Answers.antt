use Rattle.std.proofs.Common.{pos, ◌-ℤ◌, sym, refl, arith}
use Rattle.std.proofs.lemmas.Int.{ints}
use Rattle.kinds.specs.Floor.{floor_marks}
use Rattle.kinds.specs.Cash.{le_from}
use Rattle.kinds.specs.Marks.{is_given, floor_range}
use Rattle.kinds.proofs.cash.hand.CashHand.give.Goals as goal

pub returns-then-can_give : goal.returns-then-can_give
returns-then-can_give c =
    let s = c.args.self.now in
    let n = c.args.load in
    let range = floor_range s.floor in
    let fits = le_from (floor_marks s.floor) (s.marks -ℤ pos n) (sym c.if-can_give.ensures) in
    is_given s _ n c.if-can_give.ensures (omega (arith, ints)) refl
