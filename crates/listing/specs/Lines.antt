-- The line of a record, and that of a fault. Each ends in a line feed.
use Rattle.std.specs.Prelude.{ℕ, List, ◌++◌, codes, decimal}
use Rattle.faults.specs.Numbers.{file_number}
use Rattle.faults.specs.declared.file.FileFault.{FileFault}
use Rattle.entries.specs.Entry.{Entry}
use Rattle.entries.specs.Text.{entry_words}

-- PLACE NAME FIELD ..
abbrev pub line : ℕ → Entry → List ℕ
line place e = decimal place ++ (codes " " ++ (entry_words e ++ codes "\n"))

-- refused NUMBER at PLACE
abbrev pub refused_line : FileFault → List ℕ
refused_line fault = codes "refused " ++ (decimal (file_number fault.refusal) ++ (codes " at " ++ (decimal fault.place ++ codes "\n")))
