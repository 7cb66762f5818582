use Rattle.std.proofs.Common.{take, string_bytes}
use Rattle.crossings.specs.Views.{listed}
use Rattle.trace_text.specs.Pushed.{Pushed}
use Rattle.game_trace.specs.Steps.{crossing_lines}
use Rattle.game_trace.proofs.crossed.push_crossings.Given as goal

-- so many crossings are told
abbrev pub invariant-loop-crossing : goal.invariant-loop-crossing
invariant-loop-crossing l = Pushed (string_bytes l.initial.text) (string_bytes l.text) (crossing_lines l.players (listed (take l.crossing-index l.crossings)))
