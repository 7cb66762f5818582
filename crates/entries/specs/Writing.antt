-- The bytes of a record, and what writing it into a buffer leaves.
use Rattle.std.specs.Prelude.{ℕ, ◌/◌, ◌%◌, cond, List, [], ◌∷◌, ◌++◌, length, drop, Ok, Err, Result, nat_lt}
use Rattle.faults.specs.declared.file.FileFault.{FileFault}
use Rattle.faults.specs.declared.file.FileRefusal.TheVariants.{BufferTooShort}
use Rattle.entries.specs.Entry.{Entry, opens, sells, buys, ends, closes, bills, pays_out, buys_train, is_done, reopens}

-- a field of two bytes: the high byte first
abbrev pub two_bytes : ℕ → List ℕ
two_bytes n = n / 256 ∷ (n % 256 ∷ [])

-- the kind byte and the body
abbrev pub form : Entry → ℕ × List ℕ
form (opens book players) = (1, book ∷ (players ∷ []))
form (sells seat company tenths) = (2, seat ∷ (company ∷ (tenths ∷ [])))
form (buys seat company source par_space) = (3, seat ∷ (company ∷ (source ∷ (par_space ∷ []))))
form (ends seat) = (4, seat ∷ [])
form closes = (5, [])
form (bills company amount) = (6, company ∷ two_bytes amount)
form (pays_out company mode revenue) = (7, company ∷ (mode ∷ two_bytes revenue))
form (buys_train company kind) = (8, company ∷ (kind ∷ []))
form (is_done company) = (9, company ∷ [])
form reopens = (10, [])

abbrev pub kind_byte : Entry → ℕ
kind_byte e = (form e).0

abbrev pub body : Entry → List ℕ
body e = (form e).1

abbrev pub writing : Entry → List ℕ
writing e = kind_byte e ∷ body e

abbrev pub size : Entry → ℕ
size e = length (writing e)

-- bytes put at the front of a buffer: the answer, and the whole buffer after it. One that is too short stays as it was
abbrev pub put : List ℕ → List ℕ → Result ℕ FileFault × List ℕ
put bytes out =
    cond (nat_lt (length out) (length bytes))
    (Err (record { refusal = BufferTooShort; place = 0 }), out)
    (Ok (length bytes), bytes ++ drop (length bytes) out)

abbrev pub written : Entry → List ℕ → Result ℕ FileFault × List ℕ
written e out = put (writing e) out
