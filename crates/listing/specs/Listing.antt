-- The text of a whole file.
use Rattle.std.specs.Prelude.{ℕ, cond, List, [], ◌++◌, length, Some, None, Option, nat_lt}
use Rattle.std.specs.List.{flat_map}
use Rattle.faults.specs.declared.file.FileFault.{FileFault}
use Rattle.faults.specs.declared.file.FileRefusal.TheVariants.{FileTooLong}
use Rattle.entries.specs.Whole.{Outcome, reading}
use Rattle.listing.specs.Lines.{line, refused_line}

abbrev pub last_line : Option FileFault → List ℕ
last_line (Some fault) = refused_line fault
last_line None = []

-- a line for each record, and one for the fault that ended the reading
abbrev pub lines : Outcome → List ℕ
lines o = flat_map (λ p. line p.0 p.1) o.0 ++ last_line o.1

-- nothing of a file above 65,536 bytes is read
abbrev pub listing_of : List ℕ → List ℕ
listing_of file = cond (nat_lt 65536 (length file)) (refused_line (record { refusal = FileTooLong; place = 0 })) (lines (reading file))
