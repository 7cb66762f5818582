-- A whole file is read by its first record, and then by the others.
use Rattle.std.proofs.Common.{◌≡◌, ℕ, ◌<◌, Bool, true, false, cond, eqb, List, [], ◌∷◌, length, None, Ok, Err, Result, refl, ap, ◌∙◌, arith}
use Rattle.std.proofs.lemmas.Bool.{eqb-true, eqb-false}
use Rattle.faults.specs.declared.file.FileFault.{FileFault}
use Rattle.entries.specs.Entry.{Entry}
use Rattle.entries.specs.Reading.{read_at}
use Rattle.entries.specs.Whole.{Outcome, onward, reading_by, reading}
use Rattle.entries.proofs.Steps.{at_end, stops, goes_on, reads_on, same_reading}

module _ (file : List ℕ) where
  abbrev others : ℕ → Outcome
  others next = reading_by (length file) file next

  by_first : 0 < length file → (r : Result (Entry × ℕ) FileFault) → read_at file 0 ≡ r → reading file ≡ onward 0 r others
  by_first some (Ok x) h =
      let on = goes_on file 0 some (length file) x.0 x.1 (omega arith) h (reads_on 0 file x.0 x.1 h) in
      let same = same_reading on.0 (length file) file x.1 on.1 (omega arith) in
      on.2 ∙ ap (λ (o : Outcome). ((0, x.0) ∷ o.0, o.1)) same
  by_first some (Err fault) h = stops file 0 some (length file) fault (omega arith) h

  by_test : (t : Bool) → eqb (length file) 0 ≡ t → reading file ≡ cond t ([], None) (onward 0 (read_at file 0) others)
  by_test true e = at_end (length file) file 0 (omega (arith, eqb-true _ _ e))
  by_test false e = by_first (omega (arith, eqb-false _ _ e)) (read_at file 0) refl

  pub reads_first : reading file ≡ cond (eqb (length file) 0) ([], None) (onward 0 (read_at file 0) others)
  reads_first = by_test (eqb (length file) 0) refl
