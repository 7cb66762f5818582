-- What the first record of a file opens: a game, or nothing.
use Rattle.std.specs.Prelude.{ℕ, cond, List, length, Some, None, Ok, Err, Option, Result, nat_eq, nat_lt}
use Rattle.faults.specs.Layers.{in_call, at_place}
use Rattle.faults.specs.declared.file.FileFault.{FileFault}
use Rattle.faults.specs.declared.file.FileRefusal.{FileRefusal}
use Rattle.faults.specs.declared.file.FileRefusal.TheVariants.{OpenMisplaced, FileTooLong, UnknownBook}
use Rattle.faults.specs.declared.table.CallName.TheVariants.{Open}
use Rattle.entries.specs.Entry.{Entry, opens, sells, buys, ends, closes, bills, pays_out, buys_train, is_done, reopens}
use Rattle.entries.specs.Reading.{read_at}
use Rattle.catalogue.specs.Printed.{printed_meaning, numbered}
use Rattle.catalogue.specs.declared.books.PrintedBook.{PrintedBook}
use Rattle.ledger.specs.Opening.{open_answer}
use Rattle.ledger.specs.declared.books.Books.{Books}
use Rattle.replay.specs.Whole.{SeenGame}

-- a game, the record that opened it, and the place after that record
pub record SeenOpening : Type 0 where
  pub game : SeenGame
  pub entry : Entry
  pub next : ℕ

abbrev pub no_opening : FileRefusal → Result SeenOpening FileFault
no_opening why = Err (record { refusal = why; place = 0 })

module _ (next : ℕ) where
  -- the table opens in round 1, with the card of round 1
  abbrev pub opening_by_table : Entry → PrintedBook → Result Books FileFault → Result SeenOpening FileFault
  opening_by_table e book (Ok s) = Ok (record { game = record { book = book; books = s; card = 1 }; entry = e; next = next })
  opening_by_table e book (Err fault) = Err fault

  abbrev pub opening_by_book : Entry → Option PrintedBook → ℕ → Result SeenOpening FileFault
  opening_by_book e None players = no_opening UnknownBook
  opening_by_book e (Some book) players = opening_by_table e book (at_place 0 (in_call Open (open_answer (printed_meaning book) players)))

  abbrev pub opening_by_entry : Entry → Result SeenOpening FileFault
  opening_by_entry (opens number players) = opening_by_book (opens number players) (numbered number) players
  opening_by_entry (sells seat company tenths) = no_opening OpenMisplaced
  opening_by_entry (buys seat company source par_space) = no_opening OpenMisplaced
  opening_by_entry (ends seat) = no_opening OpenMisplaced
  opening_by_entry closes = no_opening OpenMisplaced
  opening_by_entry (bills company amount) = no_opening OpenMisplaced
  opening_by_entry (pays_out company mode revenue) = no_opening OpenMisplaced
  opening_by_entry (buys_train company kind) = no_opening OpenMisplaced
  opening_by_entry (is_done company) = no_opening OpenMisplaced
  opening_by_entry reopens = no_opening OpenMisplaced

abbrev pub opening_by_first : Result (Entry × ℕ) FileFault → Result SeenOpening FileFault
opening_by_first (Ok x) = opening_by_entry x.1 x.0
opening_by_first (Err fault) = Err fault

-- nothing of a file above 65,536 bytes is read
abbrev pub opening : List ℕ → Result SeenOpening FileFault
opening file = cond (nat_lt 65536 (length file)) (no_opening FileTooLong) (cond (nat_eq (length file) 0) (no_opening OpenMisplaced) (opening_by_first (read_at file 0)))
