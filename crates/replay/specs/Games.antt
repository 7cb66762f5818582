-- What replay answers, as a definition can say it.
use Rattle.std.specs.Prelude.{ℕ, List, Some, None, Ok, Err, Option, Result}
use Rattle.faults.specs.declared.file.FileFault.{FileFault}
use Rattle.catalogue.specs.Printed.{printed_meaning}
use Rattle.replay.specs.Cards.{number_of}
use Rattle.replay.specs.Playing.{played_from}
use Rattle.entries.specs.Entry.{view}
use Rattle.replay.specs.Opening.{SeenOpening}
use Rattle.replay.specs.Whole.{SeenGame, Replayed, no_game, game_played}
use Rattle.replay.specs.declared.game.Game.{Game}
use Rattle.replay.specs.declared.game.Opened.{Opened}
use Rattle.replay.specs.declared.game.Stopped.{Stopped}

abbrev pub seen_game : Game → SeenGame
seen_game g = record { book = g.table.book; books = g.table.books; card = number_of g.card }

abbrev pub seen_maybe : Option Game → Option SeenGame
seen_maybe None = None
seen_maybe (Some g) = Some (seen_game g)

abbrev pub seen_replay : Result Game Stopped → Replayed
seen_replay (Ok g) = record { game = Some (seen_game g); fault = None }
seen_replay (Err stopped) = record { game = seen_maybe stopped.game; fault = Some stopped.fault }

abbrev pub seen_opening : Result Opened FileFault → Result SeenOpening FileFault
seen_opening (Ok o) = Ok (record { game = seen_game o.game; entry = view o.record; next = o.next })
seen_opening (Err fault) = Err fault

-- what a file leaves whose open gave this answer: a game and the place after the open, or a fault
abbrev pub opened_then : List ℕ → Result SeenOpening FileFault → Replayed
opened_then file (Err fault) = no_game fault
opened_then file (Ok o) =
    let g = o.game in
    game_played g.book (played_from (printed_meaning g.book) g.books g.card file o.next)
