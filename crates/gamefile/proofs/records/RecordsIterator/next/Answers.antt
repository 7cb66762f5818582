use Rattle.std.proofs.Common.{length, ap, arith}
use Rattle.entries.specs.Entry.{view}
use Rattle.gamefile.specs.Left.{left, items}
use Rattle.gamefile.proofs.RecordsLeft.{none_from, fault_from, record_from}
use Rattle.gamefile.proofs.records.RecordsIterator.next.Goals as goal

pub returns-then-place-self-clause-steps : goal.returns-then-place-self-clause-steps
unfolding left
returns-then-place-self-clause-steps c =
    let none = none_from c.args.self.now.file.now c.args.self.now.place c.if-place-self.true in (none, none)

pub returns-in-Ok-clause-steps : goal.returns-in-Ok-clause-steps
unfolding left
returns-in-Ok-clause-steps c =
    record_from c.args.self.now.file.now c.args.self.now.place (view c.in-Ok.record) c.in-Ok.next c.if-place-self.false c.in-Ok.ensures.value c.in-Ok.ensures.within.0

pub returns-in-Ok-clause-goes : goal.returns-in-Ok-clause-goes
returns-in-Ok-clause-goes c =
    record { on = λ _. (tt, tt, omega (arith, ap items (returns-in-Ok-clause-steps c))); keeps = tt; rests = λ _. tt }

pub returns-in-Err-clause-steps : goal.returns-in-Err-clause-steps
unfolding left
returns-in-Err-clause-steps c =
    let file = c.args.self.now.file.now in
    (fault_from file c.args.self.now.place c.in-Err.fault c.if-place-self.false c.in-Err.ensures.value, none_from file (length file) (omega arith))

pub returns-in-Err-clause-goes : goal.returns-in-Err-clause-goes
returns-in-Err-clause-goes c =
    let step = returns-in-Err-clause-steps c in
    record { on = λ _. (tt, tt, omega (arith, ap items step.0, ap items step.1)); keeps = tt; rests = λ _. tt }
