use Rattle.std.proofs.Common.{pos, ◌≤ℤ◌, refl, arith}
use Rattle.std.proofs.lemmas.Int.{ints, to_z-of_z}
use Rattle.kinds.specs.Floor.{floor_marks}
use Rattle.kinds.specs.Marks.{is_new}
use Rattle.kinds.proofs.cash.Cash.new.Goals as goal

pub returns : goal.returns
returns c =
    let low : floor_marks c.args.floor ≤ℤ c.args.marks = grind (arith, ints, to_z-of_z) in
    let high : c.args.marks ≤ℤ pos 1000000 = grind (arith, ints, to_z-of_z) in
    is_new c.args.floor c.args.marks _ low high (omega (arith, ints)) refl
