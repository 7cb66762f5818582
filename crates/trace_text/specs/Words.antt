-- The line that tells a refusal.
use Rattle.std.specs.Prelude.{ℕ, List, ◌++◌, codes, decimal}
use Rattle.faults.specs.Numbers.{file_number}
use Rattle.faults.specs.Words.{file_words}
use Rattle.faults.specs.declared.file.FileFault.{FileFault}

-- refused NUMBER at PLACE: WORDS
abbrev pub refused_at : ℕ → ℕ → List ℕ
refused_at number place = codes "refused " ++ (decimal number ++ (codes " at " ++ (decimal place ++ codes ": ")))

abbrev pub refusal_line : FileFault → List ℕ
refusal_line fault = refused_at (file_number fault.refusal) fault.place ++ (file_words fault.refusal ++ codes "\n")
