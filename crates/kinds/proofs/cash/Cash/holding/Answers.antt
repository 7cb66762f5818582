use Rattle.std.proofs.Common.{pos, refl, arith}
use Rattle.std.proofs.lemmas.Int.{ints}
use Rattle.kinds.specs.Marks.{is_new, floor_range}
use Rattle.kinds.proofs.cash.Cash.holding.Goals as goal

pub returns : goal.returns
returns c =
    let range = floor_range c.args.floor in
    is_new c.args.floor (pos c.args.marks) _ (omega (arith, ints)) (omega (arith, ints)) (omega (arith, ints)) refl
