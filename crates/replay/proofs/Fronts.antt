-- A file that begins with the writings of records reads as these, and then as what follows them.
use Rattle.std.proofs.Common.{◌≡◌, ℕ, ◌+◌, ◌<◌, ◌≤◌, List, [], ◌∷◌, ◌++◌, length, drop, Ok, sym, refl, ap, ◌∙◌, append_assoc, arith, length-append, length-drop}
use Rattle.std.specs.List.{flat_map}
use Rattle.std.proofs.lemmas.List.{drop_at, drop-drop}
use Rattle.entries.specs.Entry.{Entry}
use Rattle.entries.specs.Reading.{first, from_place, read_at}
use Rattle.entries.specs.Whole.{Outcome, reading_by, placed_from}
use Rattle.entries.specs.Writing.{writing, size}
use Rattle.entries.proofs.OneWriting.{first_written}
use Rattle.entries.proofs.Steps.{goes_on, same_reading}

abbrev pub after_front : ℕ → List Entry → Outcome → Outcome
after_front place es o = (placed_from place es ++ o.0, o.1)

module _ (file : List ℕ) where
  front : (es : List Entry) (place n : ℕ) (rest : List ℕ) → drop place file ≡ flat_map writing es ++ rest → length file ≤ place + n → (end : ℕ) → place + length (flat_map writing es) ≡ end
      → (m : ℕ) × (length file ≤ end + m) × (reading_by n file place ≡ after_front place es (reading_by m file end))
  front [] place n rest here l end last = let same : place ≡ end = omega arith in (n, omega arith, ap (reading_by n file) same)
  front (e ∷ es) place n rest here l end last =
      let after = flat_map writing es ++ rest in
      let split : drop place file ≡ writing e ++ after = here ∙ append_assoc (writing e) (flat_map writing es) rest in
      let got : read_at file place ≡ Ok (e, place + size e) = ap (λ s. from_place place (first s)) split ∙ ap (from_place place) (first_written e after) in
      let more : place < length file = omega (arith, length-drop place file, ap length split) in
      let step = goes_on file place more n e (place + size e) l got (omega arith) in
      let next : drop (place + size e) file ≡ after = sym (drop-drop (size e) place file) ∙ ap (drop (size e)) split ∙ drop_at (writing e) after (size e) refl in
      let others = front es (place + size e) step.0 rest next step.1 end (omega (arith, length-append (writing e) (flat_map writing es))) in
      (others.0, others.1, step.2 ∙ ap (λ (r : Outcome). ((place, e) ∷ r.0, r.1)) others.2)

-- from the start of the file
pub reads_front : (es : List Entry) (rest : List ℕ) → let file = flat_map writing es ++ rest in reading_by (length file) file 0 ≡ after_front 0 es (reading_by (length file) file (length (flat_map writing es)))
reads_front es rest =
    let file = flat_map writing es ++ rest in
    let end = length (flat_map writing es) in
    let f = front file es 0 (length file) rest refl (omega arith) end (omega arith) in
    f.2 ∙ ap (after_front 0 es) (same_reading f.0 (length file) file end f.1 (omega arith))
