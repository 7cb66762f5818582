-- How an answer crosses to C.
use Rattle.std.specs.Prelude.{ℕ, List, Ok, Err, Result}
use Rattle.faults.specs.declared.file.FileFault.{FileFault}

-- the answer as a plain number, and the buffer
abbrev pub length_or_nought : Result ℕ FileFault × List ℕ → ℕ × List ℕ
length_or_nought (Ok n, out) = (n, out)
length_or_nought (Err fault, out) = (0, out)
