-- What the open of a file answers, as a text can tell it.
use Rattle.std.specs.Prelude.{ℕ, List, ◌++◌, Ok, Err, Result}
use Rattle.faults.specs.declared.file.FileFault.{FileFault}
use Rattle.listing.specs.Lines.{line}
use Rattle.catalogue.specs.Printed.{printed_meaning}
use Rattle.replay.specs.Opening.{SeenOpening}
use Rattle.trace_text.specs.Words.{refusal_line}
use Rattle.game_trace.specs.Trace.{traced_from}

-- the whole text, where the open gave this answer: a game, the open and the place after it, or a fault
abbrev pub started_then : List ℕ → Result SeenOpening FileFault → List ℕ
started_then file (Err fault) = refusal_line fault
started_then file (Ok o) =
    let g = o.game in
    line 0 o.entry ++ traced_from (printed_meaning g.book) g.books g.card file o.next
