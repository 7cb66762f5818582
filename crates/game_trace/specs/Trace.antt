-- The text of a game file that is followed record by record, to its end or its first fault.
use Rattle.std.specs.Prelude.{ℕ, cond, List, [], ◌∷◌, ◌++◌, length, Some, None, Ok, Err, Option, Result, nat_lt}
use Rattle.faults.specs.Layers.{in_call, at_place}
use Rattle.faults.specs.declared.file.FileFault.{FileFault}
use Rattle.faults.specs.declared.file.FileRefusal.{FileRefusal}
use Rattle.faults.specs.declared.file.FileRefusal.TheVariants.{OpenMisplaced, FileTooLong, UnknownBook}
use Rattle.faults.specs.declared.table.CallName.TheVariants.{Open}
use Rattle.entries.specs.Entry.{Entry, opens, sells, buys, ends, closes, bills, pays_out, buys_train, is_done, reopens}
use Rattle.entries.specs.Whole.{Outcome, reading_by, reading}
use Rattle.listing.specs.Lines.{line}
use Rattle.rulebook.specs.Book.{Book}
use Rattle.catalogue.specs.Printed.{printed_meaning, numbered}
use Rattle.catalogue.specs.declared.books.PrintedBook.{PrintedBook}
use Rattle.ledger.specs.Opening.{open_answer}
use Rattle.ledger.specs.declared.books.Books.{Books}
use Rattle.replay.specs.Playing.{record_played}
use Rattle.trace_text.specs.Words.{refusal_line}
use Rattle.game_trace.specs.Steps.{unless_fault, step_lines, going}

-- nothing is told after a fault
abbrev pub tell_on : Option (Books × ℕ) → (Books → ℕ → List ℕ) → List ℕ
tell_on None later = []
tell_on (Some x) later = later x.0 x.1

-- records with their places, and then the fault that ended the reading, if any
abbrev pub traced : Book → Books → ℕ → List (ℕ × Entry) → Option FileFault → List ℕ
traced b s card [] ending = unless_fault ending []
traced b s card (p ∷ rest) ending =
    step_lines b s card p.0 p.1 ++ tell_on (going (record_played b s card p.0 p.1)) (λ t next. traced b t next rest ending)

abbrev pub all_traced : Book → Books → ℕ → Outcome → List ℕ
all_traced b s card o = traced b s card o.0 o.1

-- the records of a file from a place on
abbrev pub traced_from : Book → Books → ℕ → List ℕ → ℕ → List ℕ
traced_from b s card file from = all_traced b s card (reading_by (length file) file from)

abbrev pub refused_at : ℕ → FileRefusal → List ℕ
refused_at place why = refusal_line (record { refusal = why; place = place })

module _ (place : ℕ) (rest : List (ℕ × Entry)) (ending : Option FileFault) where
  -- the open's own line, and then the rest with the card of round 1
  abbrev pub from_opening : Entry → PrintedBook → Result Books FileFault → List ℕ
  from_opening e book (Ok s) = line place e ++ traced (printed_meaning book) s 1 rest ending
  from_opening e book (Err fault) = refusal_line fault

  abbrev pub from_book : Entry → Option PrintedBook → ℕ → List ℕ
  from_book e None players = refused_at place UnknownBook
  from_book e (Some book) players = from_opening e book (at_place place (in_call Open (open_answer (printed_meaning book) players)))

  abbrev pub from_first : Entry → List ℕ
  from_first (opens book players) = from_book (opens book players) (numbered book) players
  from_first (sells seat company tenths) = refused_at place OpenMisplaced
  from_first (buys seat company source par_space) = refused_at place OpenMisplaced
  from_first (ends seat) = refused_at place OpenMisplaced
  from_first closes = refused_at place OpenMisplaced
  from_first (bills company amount) = refused_at place OpenMisplaced
  from_first (pays_out company mode revenue) = refused_at place OpenMisplaced
  from_first (buys_train company kind) = refused_at place OpenMisplaced
  from_first (is_done company) = refused_at place OpenMisplaced
  from_first reopens = refused_at place OpenMisplaced

abbrev pub from_records : List (ℕ × Entry) → Option FileFault → List ℕ
from_records [] None = refused_at 0 OpenMisplaced
from_records [] (Some fault) = refusal_line fault
from_records (p ∷ rest) ending = from_first p.0 rest ending p.1

-- nothing of a file above 65,536 bytes is followed
abbrev pub trace_of : List ℕ → List ℕ
trace_of file = cond (nat_lt 65536 (length file)) (refused_at 0 FileTooLong) (from_records (reading file).0 (reading file).1)
