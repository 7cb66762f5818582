-- A text at the front of a lent buffer.
use Rattle.std.specs.Prelude.{ℕ, cond, List, ◌++◌, length, drop, Ok, Err, Result, nat_le}
use Rattle.faults.specs.declared.file.FileFault.{FileFault}
use Rattle.faults.specs.declared.file.FileRefusal.TheVariants.{BufferTooShort}

-- the answer, and what the buffer then holds: the text and its own later bytes, or all that it held
abbrev pub handed_over : List ℕ → List ℕ → Result ℕ FileFault × List ℕ
handed_over text out =
    cond (nat_le (length text) (length out)) (Ok (length text), text ++ drop (length text) out) (Err (record { refusal = BufferTooShort; place = 0 }), out)
