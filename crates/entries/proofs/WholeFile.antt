-- A file of writings reads as their records, and only such a file does.
use Rattle.std.proofs.Common.{◌≡◌, ℕ, zero, suc, ◌+◌, ◌<◌, ◌≤◌, Bool, true, false, cond, ltb, List, [], ◌∷◌, ◌++◌, map, length, drop, Some, None, Ok, Err, Option, Result, sym, refl, ap, ◌∙◌, subst, append_assoc, append-nil, arith, length-append, length-drop}
use Rattle.std.specs.List.{flat_map}
use Rattle.std.proofs.lemmas.List.{drop_all, drop_at, drop-drop, take-append-drop}
use Rattle.std.proofs.lemmas.Bool.{ltb-false}
use Rattle.faults.specs.declared.file.FileFault.{FileFault}
use Rattle.faults.specs.declared.file.FileRefusal.{FileRefusal}
use Rattle.entries.specs.Entry.{Entry}
use Rattle.entries.specs.Writing.{writing, size}
use Rattle.entries.specs.Reading.{first, from_place, read_at}
use Rattle.entries.specs.Whole.{Outcome, onward, reading_by, reading, placed_from}
use Rattle.entries.specs.Laws.{Bytes, WholeFiles}
use Rattle.entries.proofs.OneWriting.{first_written, one_writing}
use Rattle.entries.proofs.Steps.{at_end, stops, goes_on}

-- writings in a file are read as their entries, and then comes what the place after them gives
pub reads_writings :
    (es : List Entry) (file : List ℕ) (place n : ℕ) (rest : List ℕ) (o : Option FileFault) → drop place file ≡ flat_map writing es ++ rest → length file ≤ place + n
    → (end : ℕ) → place + length (flat_map writing es) ≡ end → ((m : ℕ) → length file ≤ end + m → reading_by m file end ≡ ([], o))
    → reading_by n file place ≡ (placed_from place es, o)
reads_writings [] file place n rest o here l end last ending =
    let same : place ≡ end = omega arith in
    ap (reading_by n file) same ∙ ending n (omega arith)
reads_writings (e ∷ es) file place n rest o here l end last ending =
    let after = flat_map writing es ++ rest in
    let split : drop place file ≡ writing e ++ after = here ∙ append_assoc (writing e) (flat_map writing es) rest in
    let got : read_at file place ≡ Ok (e, place + size e) = ap (λ s. from_place place (first s)) split ∙ ap (from_place place) (first_written e after) in
    let more : place < length file = omega (arith, length-drop place file, ap length split) in
    let step = goes_on file place more n e (place + size e) l got (omega arith) in
    let next : drop (place + size e) file ≡ after = sym (drop-drop (size e) place file) ∙ ap (drop (size e)) split ∙ drop_at (writing e) after (size e) refl in
    let others = reads_writings es file (place + size e) step.0 rest o next step.1 end (omega (arith, length-append (writing e) (flat_map writing es))) ending in
    step.2 ∙ ap (λ (r : Outcome). ((place, e) ∷ r.0, r.1)) others

reads_as : (es : List Entry) → reading (flat_map writing es) ≡ (placed_from 0 es, None)
reads_as es =
    let file = flat_map writing es in
    reads_writings es file 0 (length file) [] None (sym (append-nil file)) (omega arith) (length file) (omega arith) (λ m l. at_end m file (length file) (omega arith))

stops_at :
    (es : List Entry) (rest : List ℕ) (why : FileRefusal) → 0 < length rest → first rest ≡ Err why
    → reading (flat_map writing es ++ rest) ≡ (placed_from 0 es, Some (record { refusal = why; place = length (flat_map writing es) }))
stops_at es rest why some bad =
    let file = flat_map writing es ++ rest in
    let end = length (flat_map writing es) in
    let more : end < length file = omega (arith, length-append (flat_map writing es) rest) in
    let got : read_at file end ≡ Err (record { refusal = why; place = end }) = ap (λ s. from_place end (first s)) (drop_at (flat_map writing es) rest end refl) ∙ ap (from_place end) bad in
    reads_writings es file 0 (length file) rest _ refl (omega arith) end (omega arith) (λ m l. stops file end more m _ l got)

-- entries at their places, and the file from a place on is their writings
abbrev Told : List ℕ → ℕ → List (ℕ × Entry) → Type 0
Told file place read = (read ≡ placed_from place (map (λ p. p.1) read)) × (drop place file ≡ flat_map writing (map (λ p. p.1) read))

module _ (file : List ℕ) (small : Bytes file) where
  module _ (n place : ℕ) (l : length file ≤ place + suc n) (later : (q : ℕ) → length file ≤ q + n → (reading_by n file q).1 ≡ None → Told file q (reading_by n file q).0) where
    told_on : (r : Result (Entry × ℕ) FileFault) → read_at file place ≡ r → (onward place r (reading_by n file)).1 ≡ None → Told file place (onward place r (reading_by n file)).0
    told_on (Err fault) p h = let z : ◌≡◌ {A = ℕ} 0 1 = cc in absurd (omega arith)
    told_on (Ok x) p h =
        let e = x.0 in
        let exact = one_writing file small place x.1 e p in
        let read = (reading_by n file x.1).0 in
        let others = later x.1 (omega (arith, exact.0)) h in
        let rest = drop-drop (size e) place file ∙ ap (λ q. drop q file) (sym exact.0) ∙ others.1 in (
          ap (λ (l : List (ℕ × Entry)). (place, e) ∷ l) (others.0 ∙ ap (λ q. placed_from q (map (λ p. p.1) read)) exact.0),
          sym (take-append-drop (size e) (drop place file)) ∙ ap (λ l. l ++ drop (size e) (drop place file)) exact.1 ∙ ap (λ l. writing e ++ l) rest,
        )

    told_way : (b : Bool) → ltb place (length file) ≡ b → (cond b (onward place (read_at file place) (reading_by n file)) ([], None)).1 ≡ None
        → Told file place (cond b (onward place (read_at file place) (reading_by n file)) ([], None)).0
    told_way false e h = (refl, drop_all place file (ltb-false place (length file) e))
    told_way true e h = told_on (read_at file place) refl h

  told : (n place : ℕ) → length file ≤ place + n → (reading_by n file place).1 ≡ None → Told file place (reading_by n file place).0
  told zero place l h = (refl, drop_all place file (omega arith))
  told (suc n) place l h = told_way n place l (λ q. told n q) (ltb place (length file)) refl h

reads_only :
    (file : List ℕ) → Bytes file → (read : List (ℕ × Entry)) → reading file ≡ (read, None)
    → (read ≡ placed_from 0 (map (λ p. p.1) read)) × (file ≡ flat_map writing (map (λ p. p.1) read))
reads_only file small read h =
    subst (Told file 0) (ap (λ (r : Outcome). r.0) h) (told file small (length file) 0 (omega arith) (ap (λ (r : Outcome). r.1) h))

placed_entries : (place : ℕ) (es : List Entry) → map (λ p. p.1) (placed_from place es) ≡ es
placed_entries place [] = refl
placed_entries place (e ∷ es) = ap (λ l. e ∷ l) (placed_entries (place + size e) es)

no_other : (es fs : List Entry) → flat_map writing es ≡ flat_map writing fs → es ≡ fs
no_other es fs h =
    let same : placed_from 0 es ≡ placed_from 0 fs = ap (λ (r : Outcome). r.0) (sym (reads_as es) ∙ ap reading h ∙ reads_as fs) in
    sym (placed_entries 0 es) ∙ ap (map (λ p. p.1)) same ∙ placed_entries 0 fs

pub whole_files : WholeFiles
whole_files = record { reads_as = reads_as; reads_only = reads_only; no_other = no_other; stops_at = stops_at }
