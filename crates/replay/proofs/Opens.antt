-- What a file leaves, by what its first record opens.
use Rattle.std.proofs.Common.{◌≡◌, ℕ, Bool, true, false, cond, eqb, ltb, List, [], length, Some, None, Ok, Err, Option, Result, refl, ap, ◌∙◌, subst, arith, MatchResult}
use Rattle.faults.specs.Layers.{in_call, at_place}
use Rattle.faults.specs.declared.file.FileFault.{FileFault}
use Rattle.faults.specs.declared.file.FileRefusal.TheVariants.{OpenMisplaced, FileTooLong, Table}
use Rattle.faults.specs.declared.table.CallName.TheVariants.{Open}
use Rattle.faults.specs.declared.table.TableFault.{TableFault}
use Rattle.entries.specs.Entry.{Entry, opens, sells, buys, ends, closes, bills, pays_out, buys_train, is_done, reopens}
use Rattle.entries.specs.Reading.{read_at}
use Rattle.entries.specs.Whole.{Outcome, onward, reading_by, reading}
use Rattle.catalogue.specs.Printed.{printed_meaning, numbered}
use Rattle.catalogue.specs.declared.books.PrintedBook.{PrintedBook}
use Rattle.ledger.specs.Opening.{open_answer}
use Rattle.ledger.specs.declared.books.Books.{Books}
use Rattle.replay.specs.Games.{opened_then}
use Rattle.replay.specs.Opening.{SeenOpening, no_opening, opening_by_table, opening_by_book, opening_by_entry, opening_by_first, opening}
use Rattle.replay.specs.Playing.{Played}
use Rattle.replay.specs.Whole.{Replayed, game_played, refused_at, from_opening, from_book, from_first, from_records, replayed}
use Rattle.replay.proofs.FirstRecord.{reads_first}

module _ (file : List ℕ) where
  module _ (next : ℕ) where
    abbrev rest : Outcome
    rest = reading_by (length file) file next

    by_table : (e : Entry) (book : PrintedBook) (r : Result Books FileFault) → opened_then file (opening_by_table next e book r) ≡ from_opening 0 rest.0 rest.1 book r
    by_table e book (Ok s) = refl
    by_table e book (Err fault) = refl

    by_book : (e : Entry) (o : Option PrintedBook) (players : ℕ) → opened_then file (opening_by_book next e o players) ≡ from_book 0 rest.0 rest.1 o players
    by_book e None players = refl
    by_book e (Some book) players = by_table e book (at_place 0 (in_call Open (open_answer (printed_meaning book) players)))

    by_entry : (e : Entry) → opened_then file (opening_by_entry next e) ≡ from_first 0 rest.0 rest.1 e
    by_entry (opens number players) = by_book (opens number players) (numbered number) players
    by_entry (sells seat company tenths) = refl
    by_entry (buys seat company source par_space) = refl
    by_entry (ends seat) = refl
    by_entry closes = refl
    by_entry (bills company amount) = refl
    by_entry (pays_out company mode revenue) = refl
    by_entry (buys_train company kind) = refl
    by_entry (is_done company) = refl
    by_entry reopens = refl

  by_first : (r : Result (Entry × ℕ) FileFault) → let o = onward 0 r (reading_by (length file) file) in opened_then file (opening_by_first r) ≡ from_records o.0 o.1
  by_first (Ok x) = by_entry x.1 x.0
  by_first (Err fault) = refl

  by_size : (t : Bool) → let o = cond t ([], None) (onward 0 (read_at file 0) (reading_by (length file) file)) in
      opened_then file (cond t (no_opening OpenMisplaced) (opening_by_first (read_at file 0))) ≡ from_records o.0 o.1
  by_size true = refl
  by_size false = by_first (read_at file 0)

  by_records : opened_then file (cond (eqb (length file) 0) (no_opening OpenMisplaced) (opening_by_first (read_at file 0))) ≡ from_records (reading file).0 (reading file).1
  by_records = rw reads_first (by_size (eqb (length file) 0))

  by_length : (t : Bool) → opened_then file (cond t (no_opening FileTooLong) (cond (eqb (length file) 0) (no_opening OpenMisplaced) (opening_by_first (read_at file 0)))) ≡ cond t (refused_at 0 FileTooLong) (from_records (reading file).0 (reading file).1)
  by_length true = refl
  by_length false = by_records

  pub by_opening : opened_then file (opening file) ≡ replayed file
  by_opening = by_length (ltb 65536 (length file))

-- said of what an opening answers
pub opened_replay : (file : List ℕ) (r : Result SeenOpening FileFault) → r ≡ opening file → opened_then file r ≡ replayed file
opened_replay file r e = ap (opened_then file) e ∙ by_opening file

-- a refusal comes up with its place, and a granted answer as it is
pub refused_up : {T : Type 0} (P : T → Type 0) (a : Result Books TableFault) (place : ℕ) (fault : FileFault) (r : Result T TableFault) → MatchResult r P (λ e. a ≡ Err e) → at_place place r ≡ Err fault → at_place place a ≡ Err fault
refused_up P a place fault (Ok v) told up = let z : ◌≡◌ {A = ℕ} 0 1 = cc in absurd (omega arith)
refused_up P a place fault (Err e) told up =
    let same : record { refusal = Table e; place = place } ≡ fault = cc in
    ap (at_place place) told ∙ ap (λ (f : FileFault). Err f) same

pub granted_up : {T : Type 0} (P : T → Type 0) (a : Result Books TableFault) (place : ℕ) (v : T) (r : Result T TableFault) → MatchResult r P (λ e. a ≡ Err e) → at_place place r ≡ Ok v → P v
granted_up P a place v (Ok w) told up = let same : w ≡ v = cc in subst P same told
granted_up P a place v (Err e) told up = let z : ◌≡◌ {A = ℕ} 0 1 = cc in absurd (omega arith)

-- the same game, said of the book and the card that came back
pub same_game : (book last : PrintedBook) (p q : Played) (r : Replayed) → last ≡ book → p ≡ q → game_played book q ≡ r → game_played last p ≡ r
same_game book last p q r same ended told = ap (λ (k : PrintedBook). game_played k p) same ∙ ap (game_played book) ended ∙ told
