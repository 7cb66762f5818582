-- What reading from a place gives by the record there.
use Rattle.std.proofs.Common.{◌≡◌, ℕ, ◌<◌, ◌≤◌, List, [], ◌∷◌, length, Some, None, Ok, Err, sym, ap, ◌∙◌, arith}
use Rattle.faults.specs.declared.file.FileFault.{FileFault}
use Rattle.entries.specs.Entry.{Entry}
use Rattle.entries.specs.Reading.{read_at}
use Rattle.entries.specs.Whole.{Outcome, reading_by}
use Rattle.entries.proofs.Steps.{at_end, stops, goes_on, same_reading}

module _ (file : List ℕ) where
  abbrev From : ℕ → Outcome
  From place = reading_by (length file) file place

  pub none_from : (place : ℕ) → length file ≤ place → From place ≡ ([], None)
  none_from place h = at_end (length file) file place h

  pub fault_from : (place : ℕ) (fault : FileFault) → place < length file → Err fault ≡ read_at file place → From place ≡ ([], Some fault)
  fault_from place fault more h = stops file place more (length file) fault (omega arith) (sym h)

  pub record_from :
      (place : ℕ) (e : Entry) (next : ℕ) → place < length file → Ok (e, next) ≡ read_at file place → place < next
      → From place ≡ ((place, e) ∷ (From next).0, (From next).1)
  record_from place e next more h lt =
      let step = goes_on file place more (length file) e next (omega arith) (sym h) lt in
      step.2 ∙ ap (λ (o : Outcome). ((place, e) ∷ o.0, o.1)) (same_reading step.0 (length file) file next step.1 (omega arith))
