-- What a whole file leaves: a game and a fault, or either.
use Rattle.std.specs.Prelude.{ℕ, cond, List, [], ◌∷◌, length, Some, None, Ok, Err, Option, Result, nat_lt}
use Rattle.faults.specs.Layers.{in_call, at_place}
use Rattle.faults.specs.declared.file.FileFault.{FileFault}
use Rattle.faults.specs.declared.file.FileRefusal.{FileRefusal}
use Rattle.faults.specs.declared.file.FileRefusal.TheVariants.{OpenMisplaced, FileTooLong, UnknownBook}
use Rattle.faults.specs.declared.table.CallName.TheVariants.{Open}
use Rattle.entries.specs.Entry.{Entry, opens, sells, buys, ends, closes, bills, pays_out, buys_train, is_done, reopens}
use Rattle.entries.specs.Whole.{reading}
use Rattle.catalogue.specs.Printed.{printed_meaning, numbered}
use Rattle.catalogue.specs.declared.books.PrintedBook.{PrintedBook}
use Rattle.ledger.specs.Opening.{open_answer}
use Rattle.ledger.specs.declared.books.Books.{Books}
use Rattle.replay.specs.Playing.{Played, played}

-- a table's rule book and books, and the number of its card
pub record SeenGame : Type 0 where
  pub book : PrintedBook
  pub books : Books
  pub card : ℕ

-- there is no game where a file is refused at or before its open
pub record Replayed : Type 0 where
  pub game : Option SeenGame
  pub fault : Option FileFault

abbrev pub no_game : FileFault → Replayed
no_game fault = record { game = None; fault = Some fault }

abbrev pub refused_at : ℕ → FileRefusal → Replayed
refused_at place why = no_game (record { refusal = why; place = place })

abbrev pub game_played : PrintedBook → Played → Replayed
game_played book p = record { game = Some (record { book = book; books = p.0; card = p.1 }); fault = p.2 }

module _ (place : ℕ) (rest : List (ℕ × Entry)) (ending : Option FileFault) where
  -- the table opens in round 1, with the card of round 1
  abbrev pub from_opening : PrintedBook → Result Books FileFault → Replayed
  from_opening book (Ok s) = game_played book (played (printed_meaning book) s 1 rest ending)
  from_opening book (Err fault) = no_game fault

  abbrev pub from_book : Option PrintedBook → ℕ → Replayed
  from_book None players = refused_at place UnknownBook
  from_book (Some book) players = from_opening book (at_place place (in_call Open (open_answer (printed_meaning book) players)))

  abbrev pub from_first : Entry → Replayed
  from_first (opens book players) = from_book (numbered book) players
  from_first (sells seat company tenths) = refused_at place OpenMisplaced
  from_first (buys seat company source par_space) = refused_at place OpenMisplaced
  from_first (ends seat) = refused_at place OpenMisplaced
  from_first closes = refused_at place OpenMisplaced
  from_first (bills company amount) = refused_at place OpenMisplaced
  from_first (pays_out company mode revenue) = refused_at place OpenMisplaced
  from_first (buys_train company kind) = refused_at place OpenMisplaced
  from_first (is_done company) = refused_at place OpenMisplaced
  from_first reopens = refused_at place OpenMisplaced

-- the records with their places, and the fault that ended the reading, if any
abbrev pub from_records : List (ℕ × Entry) → Option FileFault → Replayed
from_records [] None = refused_at 0 OpenMisplaced
from_records [] (Some fault) = no_game fault
from_records (p ∷ rest) ending = from_first p.0 rest ending p.1

-- nothing of a file above 65,536 bytes is played
abbrev pub replayed : List ℕ → Replayed
replayed file = cond (nat_lt 65536 (length file)) (refused_at 0 FileTooLong) (from_records (reading file).0 (reading file).1)
