-- The text of a file, by what its first record opens.
use Rattle.std.proofs.Common.{◌≡◌, ℕ, Bool, true, false, cond, eqb, ltb, List, [], length, Some, None, Ok, Err, Option, Result, refl, ap, ◌∙◌}
use Rattle.faults.specs.Layers.{in_call, at_place}
use Rattle.faults.specs.declared.file.FileFault.{FileFault}
use Rattle.faults.specs.declared.file.FileRefusal.TheVariants.{OpenMisplaced, FileTooLong}
use Rattle.faults.specs.declared.table.CallName.TheVariants.{Open}
use Rattle.entries.specs.Entry.{Entry, opens, sells, buys, ends, closes, bills, pays_out, buys_train, is_done, reopens}
use Rattle.entries.specs.Reading.{read_at}
use Rattle.entries.specs.Whole.{Outcome, onward, reading_by, reading}
use Rattle.catalogue.specs.Printed.{printed_meaning, numbered}
use Rattle.catalogue.specs.declared.books.PrintedBook.{PrintedBook}
use Rattle.ledger.specs.Opening.{open_answer}
use Rattle.ledger.specs.declared.books.Books.{Books}
use Rattle.replay.specs.Opening.{SeenOpening, no_opening, opening_by_table, opening_by_book, opening_by_entry, opening_by_first, opening}
use Rattle.replay.proofs.FirstRecord.{reads_first}
use Rattle.game_trace.specs.Starts.{started_then}
use Rattle.game_trace.specs.Trace.{refused_at, from_opening, from_book, from_first, from_records, trace_of}

module _ (file : List ℕ) where
  module _ (next : ℕ) where
    abbrev rest : Outcome
    rest = reading_by (length file) file next

    by_table : (e : Entry) (book : PrintedBook) (r : Result Books FileFault) → started_then file (opening_by_table next e book r) ≡ from_opening 0 rest.0 rest.1 e book r
    by_table e book (Ok s) = refl
    by_table e book (Err fault) = refl

    by_book : (e : Entry) (o : Option PrintedBook) (players : ℕ) → started_then file (opening_by_book next e o players) ≡ from_book 0 rest.0 rest.1 e o players
    by_book e None players = refl
    by_book e (Some book) players = by_table e book (at_place 0 (in_call Open (open_answer (printed_meaning book) players)))

    by_entry : (e : Entry) → started_then file (opening_by_entry next e) ≡ from_first 0 rest.0 rest.1 e
    by_entry (opens number players) = by_book (opens number players) (numbered number) players
    by_entry (sells seat company tenths) = refl
    by_entry (buys seat company source par_space) = refl
    by_entry (ends seat) = refl
    by_entry closes = refl
    by_entry (bills company amount) = refl
    by_entry (pays_out company mode revenue) = refl
    by_entry (buys_train company kind) = refl
    by_entry (is_done company) = refl
    by_entry reopens = refl

  by_first : (r : Result (Entry × ℕ) FileFault) → let o = onward 0 r (reading_by (length file) file) in started_then file (opening_by_first r) ≡ from_records o.0 o.1
  by_first (Ok x) = by_entry x.1 x.0
  by_first (Err fault) = refl

  by_size : (t : Bool) → let o = cond t ([], None) (onward 0 (read_at file 0) (reading_by (length file) file)) in
      started_then file (cond t (no_opening OpenMisplaced) (opening_by_first (read_at file 0))) ≡ from_records o.0 o.1
  by_size true = refl
  by_size false = by_first (read_at file 0)

  by_records : started_then file (cond (eqb (length file) 0) (no_opening OpenMisplaced) (opening_by_first (read_at file 0))) ≡ from_records (reading file).0 (reading file).1
  by_records = rw reads_first (by_size (eqb (length file) 0))

  by_length : (t : Bool) → started_then file (cond t (no_opening FileTooLong) (cond (eqb (length file) 0) (no_opening OpenMisplaced) (opening_by_first (read_at file 0)))) ≡ cond t (refused_at 0 FileTooLong) (from_records (reading file).0 (reading file).1)
  by_length true = refl
  by_length false = by_records

  pub by_opening : started_then file (opening file) ≡ trace_of file
  by_opening = by_length (ltb 65536 (length file))

-- said of what an opening answers
pub opened_trace : (file : List ℕ) (r : Result SeenOpening FileFault) → r ≡ opening file → started_then file r ≡ trace_of file
opened_trace file r e = ap (started_then file) e ∙ by_opening file
