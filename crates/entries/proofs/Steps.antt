-- One step of reading a whole file: where it ends, where it stops, and where it goes on.
use Rattle.std.proofs.Common.{◌≡◌, ℕ, zero, suc, ◌+◌, ◌<◌, ◌≤◌, eqb, ltb, cond, List, [], ◌∷◌, length, drop, Some, None, Ok, Err, Option, Result, sym, refl, ap, subst, arith}
use Rattle.std.proofs.lemmas.Bool.{cond_both, lt-ltb, le-ltb}
use Rattle.faults.specs.declared.file.FileFault.{FileFault}
use Rattle.entries.specs.Entry.{Entry}
use Rattle.entries.specs.Reading.{known, complete, first, from_place, read_at}
use Rattle.entries.specs.Whole.{Outcome, onward, reading_by}
use Rattle.entries.specs.Writing.{size}

pub at_end : (n : ℕ) (file : List ℕ) (place : ℕ) → length file ≤ place → reading_by n file place ≡ ([], None)
at_end zero file place h = refl
at_end (suc n) file place h = rw (le-ltb place (length file) h)

module _ (file : List ℕ) (place : ℕ) (more : place < length file) where
  pub stops : (n : ℕ) (fault : FileFault) → length file ≤ place + n → read_at file place ≡ Err fault → reading_by n file place ≡ ([], Some fault)
  stops zero fault l h = absurd (omega arith)
  stops (suc n) fault l h = rw (lt-ltb place (length file) more, h)

  pub goes_on :
      (n : ℕ) (e : Entry) (next : ℕ) → length file ≤ place + n → read_at file place ≡ Ok (e, next) → place < next
      → (m : ℕ) × (length file ≤ next + m) × (reading_by n file place ≡ onward place (Ok (e, next)) (reading_by m file))
  goes_on zero e next l h lt = absurd (omega arith)
  goes_on (suc n) e next l h lt = (n, omega arith, rw (lt-ltb place (length file) more, h))

-- a record has at least one byte
module _ (place : ℕ) where
  abbrev Longer : Result (Entry × ℕ) FileFault → Type 0
  Longer (Ok x) = place < x.1
  Longer (Err fault) = Unit {0}

  complete_longer : (s : List ℕ) (o : Option Entry) → Longer (from_place place (complete s o))
  complete_longer s None = tt
  complete_longer s (Some e) = cond_both (ltb (length s) (size e)) _ _ (λ r. Longer (from_place place r)) (λ _. tt) (λ _. omega arith)

  first_longer : (s : List ℕ) → Longer (from_place place (first s))
  first_longer s = cond_both (eqb (length s) 0) _ _ (λ r. Longer (from_place place r)) (λ _. tt) (λ _. complete_longer s (known s))

  pub reads_on : (file : List ℕ) (e : Entry) (next : ℕ) → read_at file place ≡ Ok (e, next) → place < next
  reads_on file e next h = subst Longer h (first_longer (drop place file))

module _ (n m : ℕ) (file : List ℕ) (place : ℕ) (later : (next : ℕ) → place < next → reading_by n file next ≡ reading_by m file next) where
  same_onward : (r : Result (Entry × ℕ) FileFault) → read_at file place ≡ r → onward place r (reading_by n file) ≡ onward place r (reading_by m file)
  same_onward (Err fault) p = refl
  same_onward (Ok x) p = ap (λ (o : Outcome). ((place, x.0) ∷ o.0, o.1)) (later x.1 (reads_on place file x.0 x.1 p))

-- how many records it may have at most makes no difference, where that is enough
pub same_reading : (n m : ℕ) (file : List ℕ) (place : ℕ) → length file ≤ place + n → length file ≤ place + m → reading_by n file place ≡ reading_by m file place
same_reading zero m file place h k = sym (at_end m file place (omega arith))
same_reading (suc n) zero file place h k = at_end (suc n) file place (omega arith)
same_reading (suc n) (suc m) file place h k =
    ap (λ (o : Outcome). cond (ltb place (length file)) o ([], None))
    (same_onward n m file place (λ next lt. same_reading n m file next (omega arith) (omega arith)) (read_at file place) refl)
