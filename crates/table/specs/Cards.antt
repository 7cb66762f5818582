-- What close and reopen answer, without the card that they hand out or back.
use Rattle.std.specs.Prelude.{Ok, Err, Result}
use Rattle.faults.specs.declared.table.TableFault.{TableFault}

abbrev pub told_by : {A C : Type 0} → Result A (TableFault × C) → Result (Unit {0}) TableFault
told_by (Ok next) = Ok tt
told_by (Err back) = Err back.0
