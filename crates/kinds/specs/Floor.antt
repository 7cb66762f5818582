-- The floors of cash: the bank may owe 20,000 marks, nobody else any.
use Rattle.std.specs.Prelude.{ℤ, pos, negsuc}
use Rattle.kinds.specs.declared.cash_floor.CashFloor.{CashFloor}
use Rattle.kinds.specs.declared.cash_floor.CashFloor.TheVariants.{Zero, Overdraft}

abbrev pub floor_marks : CashFloor → ℤ
floor_marks Zero = pos 0
floor_marks Overdraft = negsuc 19999
