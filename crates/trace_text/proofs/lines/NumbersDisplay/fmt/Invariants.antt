use Rattle.std.specs.Fmt.{HasWritten, IsPlainFormatter}
use Rattle.trace_text.specs.Lines.{numbers_from}
use Rattle.trace_text.proofs.lines.NumbersDisplay.fmt.Given as goal

abbrev pub invariant-loop-number : goal.invariant-loop-number
invariant-loop-number g l =
    IsPlainFormatter l.initial.f → HasWritten g.W.Write.write_str_gives l.initial.f (numbers_from l.self.0.bits 0 l.number-counter) l.f
