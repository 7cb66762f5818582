-- A record has one writing, and a file of writings reads as those records and no others.
use Rattle.std.specs.Prelude.{◌≡◌, ℕ, ◌+◌, ◌<◌, ◌≤◌, List, ◌++◌, map, length, take, drop, Some, None, Ok, Err, slice_index}
use Rattle.std.specs.List.{flat_map}
use Rattle.faults.specs.declared.file.FileRefusal.{FileRefusal}
use Rattle.faults.specs.declared.file.FileRefusal.TheVariants.{CutBody}
use Rattle.entries.specs.Entry.{Entry, view}
use Rattle.entries.specs.Reading.{first, read_at}
use Rattle.entries.specs.Whole.{reading, placed_from}
use Rattle.entries.specs.Writing.{writing, size}
use Rattle.entries.specs.declared.record.Record.{Record}

abbrev pub Bytes : List ℕ → Type 0
Bytes file = (i : ℕ) → slice_index file i < 256

-- a written record reads back as itself, wherever it stands and whatever follows it
abbrev pub ReadsBack : Type 0
ReadsBack =
    (e : Entry) (before after : List ℕ)
    → read_at (before ++ (writing e ++ after)) (length before) ≡ Ok (e, length before + size e)

-- bytes that read as a record are exactly its writing
abbrev pub OneWriting : Type 0
OneWriting =
    (file : List ℕ) → Bytes file → (place next : ℕ) (e : Entry) → read_at file place ≡ Ok (e, next)
    → (next ≡ place + size e) × (take (size e) (drop place file) ≡ writing e)

-- records of different content have different writings, even if more bytes follow them
abbrev pub DifferentWritings : Type 0
DifferentWritings = (d e : Entry) (after_d after_e : List ℕ) → writing d ++ after_d ≡ writing e ++ after_e → d ≡ e

-- and the entry of a record tells all of it
abbrev pub ViewTellsAll : Type 0
ViewTellsAll = (r s : Record) → view r ≡ view s → r ≡ s

-- a place at or past the end has no record
abbrev pub NothingPastEnd : Type 0
NothingPastEnd = (file : List ℕ) (place : ℕ) → length file ≤ place → read_at file place ≡ Err (record { refusal = CutBody; place = place })

pub record SingleRecords : Type 0 where
  pub nothing_past_end : NothingPastEnd
  pub reads_back : ReadsBack
  pub one_writing : OneWriting
  pub different_writings : DifferentWritings
  pub view_tells_all : ViewTellsAll

pub record WholeFiles : Type 0 where
  -- the writings of records, one after the other, read as those records, each at its place
  pub reads_as : (es : List Entry) → reading (flat_map writing es) ≡ (placed_from 0 es, None)
  -- a file that reads as records to its end is their writings, one after the other
  pub reads_only :
      (file : List ℕ) → Bytes file → (read : List (ℕ × Entry)) → reading file ≡ (read, None)
      → (read ≡ placed_from 0 (map (λ p. p.1) read)) × (file ≡ flat_map writing (map (λ p. p.1) read))
  -- so it is the writings of no other records
  pub no_other : (es fs : List Entry) → flat_map writing es ≡ flat_map writing fs → es ≡ fs
  -- bytes that are no record end the reading, at their place, and the records before them are read
  pub stops_at :
      (es : List Entry) (rest : List ℕ) (why : FileRefusal) → 0 < length rest → first rest ≡ Err why
      → reading (flat_map writing es ++ rest) ≡ (placed_from 0 es, Some (record { refusal = why; place = length (flat_map writing es) }))
