-- Reading a whole file, record by record, to its end or to its first fault.
use Rattle.std.specs.Prelude.{ℕ, zero, suc, ◌+◌, cond, List, [], ◌∷◌, length, Some, None, Ok, Err, Option, Result, nat_lt}
use Rattle.faults.specs.declared.file.FileFault.{FileFault}
use Rattle.entries.specs.Entry.{Entry}
use Rattle.entries.specs.Reading.{read_at}
use Rattle.entries.specs.Writing.{size}

-- the records with their places, and the fault that ended it, if any
abbrev pub Outcome : Type 0
Outcome = List (ℕ × Entry) × Option FileFault

abbrev pub onward : ℕ → Result (Entry × ℕ) FileFault → (ℕ → Outcome) → Outcome
onward place (Ok x) from = ((place, x.0) ∷ (from x.1).0, (from x.1).1)
onward place (Err fault) from = ([], Some fault)

-- at most n records, from a place on
abbrev pub reading_by : ℕ → List ℕ → ℕ → Outcome
reading_by zero file place = ([], None)
reading_by (suc n) file place = cond (nat_lt place (length file)) (onward place (read_at file place) (λ next. reading_by n file next)) ([], None)

-- a record has at least one byte, so there are no more records than bytes
abbrev pub reading : List ℕ → Outcome
reading file = reading_by (length file) file 0

-- entries one after the other, with their places
abbrev pub placed_from : ℕ → List Entry → List (ℕ × Entry)
placed_from place [] = []
placed_from place (e ∷ es) = (place, e) ∷ placed_from (place + size e) es
