-- What an iterator over the records of a file has left, and what a call of next gives of it.
use Rattle.std.specs.Prelude.{◌≡◌, ℕ, ◌+◌, [], ◌∷◌, length, Some, None, Ok, Err, Option, Result}
use Rattle.std.specs.Iterator.{Count, at_most}
use Rattle.faults.specs.declared.file.FileFault.{FileFault}
use Rattle.entries.specs.Entry.{view}
use Rattle.entries.specs.Whole.{Outcome, reading_by}
use Rattle.entries.specs.declared.record.Record.{Record}
use Rattle.gamefile.specs.declared.records.Records.{Records}

-- the records that are still to come, with their places, and the fault that will end it, if any
unfoldable pub left : Records → Outcome
left it = reading_by (length it.file.now) it.file.now it.place

abbrev pub faults : Option FileFault → ℕ
faults (Some fault) = 1
faults None = 0

-- an item for each record, and one for the fault
abbrev pub items : Outcome → ℕ
items o = length o.0 + faults o.1

abbrev pub items_left : Records → Count
items_left it = at_most (items (left it))

-- the first record with its place, or the fault, after which nothing is left
abbrev pub Gives : Records → Option (Result (ℕ × Record) FileFault) → Records → Type 0
Gives it None then = (left it ≡ ([], None)) × (left then ≡ ([], None))
Gives it (Some (Ok x)) then = left it ≡ ((x.0, view x.1) ∷ (left then).0, (left then).1)
Gives it (Some (Err fault)) then = (left it ≡ ([], Some fault)) × (left then ≡ ([], None))
