-- The record at a place of a file.
use Rattle.std.specs.Prelude.{ℕ, ◌+◌, ◌*◌, cond, List, length, drop, Some, None, Ok, Err, Option, Result, ◌==◌, nat_lt, slice_index}
use Rattle.faults.specs.declared.file.FileFault.{FileFault}
use Rattle.faults.specs.declared.file.FileRefusal.{FileRefusal}
use Rattle.faults.specs.declared.file.FileRefusal.TheVariants.{UnknownKind, CutBody}
use Rattle.entries.specs.Entry.{Entry, opens, sells, buys, ends, closes, bills, pays_out, buys_train, is_done, reopens, view}
use Rattle.entries.specs.Writing.{size}
use Rattle.entries.specs.declared.record.Record.{Record}

abbrev pub or_else : Option Entry → Option Entry → Option Entry
or_else (Some e) other = Some e
or_else None other = other

module _ (bytes : List ℕ) where
  abbrev pub byte : ℕ → ℕ
  byte i = slice_index bytes i

  abbrev pub pair : ℕ → ℕ
  pair i = byte i * 256 + byte (i + 1)

  -- the entry that the kind byte asks for, from the bytes after it: open and the calls of a stock round
  abbrev pub stock_entry : Option Entry
  stock_entry =
      cond (byte 0 == 1) (Some (opens (byte 1) (byte 2)))
      (cond (byte 0 == 2) (Some (sells (byte 1) (byte 2) (byte 3)))
      (cond (byte 0 == 3) (Some (buys (byte 1) (byte 2) (byte 3) (byte 4)))
      (cond (byte 0 == 4) (Some (ends (byte 1)))
      (cond (byte 0 == 5) (Some closes)
      None))))

  -- and the calls of an operating round
  abbrev pub operating_entry : Option Entry
  operating_entry =
      cond (byte 0 == 6) (Some (bills (byte 1) (pair 2)))
      (cond (byte 0 == 7) (Some (pays_out (byte 1) (byte 2) (pair 3)))
      (cond (byte 0 == 8) (Some (buys_train (byte 1) (byte 2)))
      (cond (byte 0 == 9) (Some (is_done (byte 1)))
      (cond (byte 0 == 10) (Some reopens)
      None))))

  abbrev pub known : Option Entry
  known = or_else stock_entry operating_entry

  -- a known entry, if all its bytes are there, and how many they are
  abbrev pub complete : Option Entry → Result (Entry × ℕ) FileRefusal
  complete None = Err UnknownKind
  complete (Some e) = cond (nat_lt (length bytes) (size e)) (Err CutBody) (Ok (e, size e))

  -- the entry that the bytes begin with
  abbrev pub first : Result (Entry × ℕ) FileRefusal
  first = cond (length bytes == 0) (Err CutBody) (complete known)

-- an answer with the places that the file has
abbrev pub from_place : ℕ → Result (Entry × ℕ) FileRefusal → Result (Entry × ℕ) FileFault
from_place place (Ok x) = Ok (x.0, place + x.1)
from_place place (Err refusal) = Err (record { refusal = refusal; place = place })

-- the entry at a place and the place after it; a place at or past the end has a cut body
abbrev pub read_at : List ℕ → ℕ → Result (Entry × ℕ) FileFault
read_at file place = from_place place (first (drop place file))

-- the answers of the code, seen as entries
abbrev pub seen : {E : Type 0} → Result (Record × ℕ) E → Result (Entry × ℕ) E
seen (Ok x) = Ok (view x.0, x.1)
seen (Err e) = Err e

abbrev pub seen_one : Option Record → Option Entry
seen_one (Some r) = Some (view r)
seen_one None = None
