-- What is printed for a game file.
use Rattle.std.specs.Prelude.{ℕ, List, [], Some, None, Option}
use Rattle.faults.specs.Numbers.{file_number}
use Rattle.faults.specs.declared.file.FileFault.{FileFault}
use Rattle.text.specs.Lines.{refused_at_line}
use Rattle.catalogue.specs.Printed.{printed_meaning}
use Rattle.replay.specs.Whole.{SeenGame, replayed}
use Rattle.statement_text.specs.Statement.{statement_of}

abbrev pub game_text : Option SeenGame → List ℕ
game_text (Some g) = statement_of (printed_meaning g.book) g.books
game_text None = []

-- only the line of the fault, if there is one
abbrev pub text_of : Option SeenGame → Option FileFault → List ℕ
text_of game None = game_text game
text_of game (Some fault) = refused_at_line (file_number fault.refusal) fault.place

abbrev pub console_text : List ℕ → List ℕ
console_text file = text_of (replayed file).game (replayed file).fault
