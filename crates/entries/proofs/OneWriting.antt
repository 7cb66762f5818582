-- A record reads back from its writing, and from nothing else.
use Rattle.std.proofs.Common.{◌≡◌, ℕ, ◌+◌, ◌*◌, ◌/◌, ◌%◌, ◌<◌, ◌≤◌, cond, eqb, ltb, List, [], ◌∷◌, ◌++◌, length, take, drop, Some, None, Ok, Err, Option, Result, sym, refl, ap, ◌∙◌, subst, arith}
use Rattle.std.proofs.lemmas.List.{drop_all, drop_at, get_or-drop, length-append, take_more}
use Rattle.std.proofs.lemmas.Bool.{cond_both, cond-false, eqb-true, ne_eqb, le-ltb, ltb-false}
use Rattle.faults.specs.declared.file.FileRefusal.{FileRefusal}
use Rattle.entries.specs.Entry.{Entry, opens, sells, buys, ends, closes, bills, pays_out, buys_train, is_done, reopens, view}
use Rattle.entries.specs.Writing.{writing, size}
use Rattle.entries.specs.Reading.{byte, operating_entry, or_else, known, complete, first, from_place, read_at}
use Rattle.entries.specs.Laws.{Bytes, NothingPastEnd, ReadsBack, OneWriting, DifferentWritings, ViewTellsAll, SingleRecords}
use Rattle.entries.specs.declared.record.Record.{Record}
use Rattle.entries.specs.declared.record.Record.TheVariants.{Open, Sell, Buy, End, Close, Bill, Payout, Train, Done, Reopen}

whole : (n : ℕ) → n / 256 * 256 + n % 256 ≡ n
whole n = omega arith

high : (h l : ℕ) → l < 256 → (h * 256 + l) / 256 ≡ h
high h l k = omega arith

low : (h l : ℕ) → l < 256 → (h * 256 + l) % 256 ≡ l
low h l k = omega arith

-- the kind byte and the body of a writing tell its entry
pub written_known : (e : Entry) (after : List ℕ) → known (writing e ++ after) ≡ Some e
written_known (opens book players) after = refl
written_known (sells seat company tenths) after = refl
written_known (buys seat company source par_space) after = refl
written_known (ends seat) after = refl
written_known closes after = refl
written_known (bills company amount) after = ap (λ n. Some (bills company n)) (whole amount)
written_known (pays_out company mode revenue) after = ap (λ n. Some (pays_out company mode n)) (whole revenue)
written_known (buys_train company kind) after = refl
written_known (is_done company) after = refl
written_known reopens after = refl

-- bytes that tell an entry and have enough bytes for it read as it
pub first_from : (s : List ℕ) (e : Entry) → 0 < length s → known s ≡ Some e → size e ≤ length s → first s ≡ Ok (e, size e)
first_from s e some told fits =
    cond-false (eqb (length s) 0) _ _ (ne_eqb (length s) 0 (λ z. omega arith))
    ∙ ap (complete s) told
    ∙ cond-false (ltb (length s) (size e)) _ _ (le-ltb (length s) (size e) fits)

pub first_written : (e : Entry) (after : List ℕ) → first (writing e ++ after) ≡ Ok (e, size e)
first_written e after =
    let n = length-append (writing e) after in
    first_from (writing e ++ after) e (omega arith) (written_known e after) (omega arith)

pub nothing_past_end : NothingPastEnd
nothing_past_end file place h = ap (λ s. from_place place (first s)) (drop_all place file h)

pub reads_back : ReadsBack
reads_back e before after =
    ap (λ s. from_place (length before) (first s)) (drop_at before (writing e ++ after) (length before) refl)
    ∙ ap (from_place (length before)) (first_written e after)

front1 : (s : List ℕ) → 1 ≤ length s → take 1 s ≡ byte s 0 ∷ []
front1 s h = take_more s 0 0 (omega arith)

front2 : (s : List ℕ) → 2 ≤ length s → take 2 s ≡ byte s 0 ∷ (byte s 1 ∷ [])
front2 s h = take_more s 1 0 (omega arith) ∙ ap (λ l. l ++ (byte s 1 ∷ [])) (front1 s (omega arith))

front3 : (s : List ℕ) → 3 ≤ length s → take 3 s ≡ byte s 0 ∷ (byte s 1 ∷ (byte s 2 ∷ []))
front3 s h = take_more s 2 0 (omega arith) ∙ ap (λ l. l ++ (byte s 2 ∷ [])) (front2 s (omega arith))

front4 : (s : List ℕ) → 4 ≤ length s → take 4 s ≡ byte s 0 ∷ (byte s 1 ∷ (byte s 2 ∷ (byte s 3 ∷ [])))
front4 s h = take_more s 3 0 (omega arith) ∙ ap (λ l. l ++ (byte s 3 ∷ [])) (front3 s (omega arith))

front5 : (s : List ℕ) → 5 ≤ length s → take 5 s ≡ byte s 0 ∷ (byte s 1 ∷ (byte s 2 ∷ (byte s 3 ∷ (byte s 4 ∷ []))))
front5 s h = take_more s 4 0 (omega arith) ∙ ap (λ l. l ++ (byte s 4 ∷ [])) (front4 s (omega arith))

module _ (s : List ℕ) (small : Bytes s) where
  -- the bytes of an entry that they tell are its writing
  abbrev Own : Option Entry → Type 0
  Own (Some e) = size e ≤ length s → take (size e) s ≡ writing e
  Own None = Unit {0}

  pick : (k : ℕ) (x y : Option Entry) (P : Option Entry → Type 0) → (byte s 0 ≡ k → P x) → P y → P (cond (eqb (byte s 0) k) x y)
  pick k x y P asked other = cond_both (eqb (byte s 0) k) x y P (λ e. asked (eqb-true (byte s 0) k e)) (λ _. other)

  operating_own : Own (operating_entry s)
  operating_own =
      pick 6 _ _ Own (λ k h. let a = front4 s h in let u = high (byte s 2) (byte s 3) (small 3) in let v = low (byte s 2) (byte s 3) (small 3) in cc)
      (pick 7 _ _ Own (λ k h. let a = front5 s h in let u = high (byte s 3) (byte s 4) (small 4) in let v = low (byte s 3) (byte s 4) (small 4) in cc)
      (pick 8 _ _ Own (λ k h. let a = front3 s h in cc)
      (pick 9 _ _ Own (λ k h. let a = front2 s h in cc)
      (pick 10 _ _ Own (λ k h. let a = front1 s h in cc)
      tt))))

  known_own : Own (known s)
  known_own =
      let P : Option Entry → Type 0 = λ o. Own (or_else o (operating_entry s)) in
      pick 1 _ _ P (λ k h. let a = front3 s h in cc)
      (pick 2 _ _ P (λ k h. let a = front4 s h in cc)
      (pick 3 _ _ P (λ k h. let a = front5 s h in cc)
      (pick 4 _ _ P (λ k h. let a = front2 s h in cc)
      (pick 5 _ _ P (λ k h. let a = front1 s h in cc)
      operating_own))))

  abbrev Exact : Result (Entry × ℕ) FileRefusal → Type 0
  Exact (Ok x) = (x.1 ≡ size x.0) × (take (size x.0) s ≡ writing x.0)
  Exact (Err why) = Unit {0}

  complete_exact : (o : Option Entry) → Own o → Exact (complete s o)
  complete_exact None own = tt
  complete_exact (Some e) own =
      cond_both (ltb (length s) (size e)) _ _ Exact (λ _. tt) (λ f. (refl, own (ltb-false (length s) (size e) f)))

  first_exact : Exact (first s)
  first_exact = cond_both (eqb (length s) 0) _ _ Exact (λ _. tt) (λ _. complete_exact (known s) known_own)

pub first_only : (s : List ℕ) → Bytes s → (e : Entry) (n : ℕ) → first s ≡ Ok (e, n) → (n ≡ size e) × (take (size e) s ≡ writing e)
first_only s small e n h = subst (Exact s small) h (first_exact s small)

-- the bytes after a place
pub bytes_drop : (file : List ℕ) (place : ℕ) → Bytes file → Bytes (drop place file)
bytes_drop file place small i = rw (get_or-drop place file i 0) (small (place + i))

-- what reading at a place says of the bytes there
pub first_at : (file : List ℕ) (place : ℕ) (e : Entry) (next : ℕ) → read_at file place ≡ Ok (e, next) → (n : ℕ) × (first (drop place file) ≡ Ok (e, n)) × (next ≡ place + n)
first_at file place e next h = by (first (drop place file)) refl h
  where
    by : (r : Result (Entry × ℕ) FileRefusal) → first (drop place file) ≡ r → from_place place r ≡ Ok (e, next) → (n : ℕ) × (first (drop place file) ≡ Ok (e, n)) × (next ≡ place + n)
    by (Ok x) p q =
        let f : (x.0, place + x.1) ≡ (e, next) = cc in
        (x.1, p ∙ ap (λ d. Ok (d, x.1)) (ap (λ (y : Entry × ℕ). y.0) f), sym (ap (λ (y : Entry × ℕ). y.1) f))
    by (Err why) p q = let z : ◌≡◌ {A = ℕ} 0 1 = cc in absurd (omega arith)

pub one_writing : OneWriting
one_writing file small place next e h =
    let a = first_at file place e next h in
    let b = first_only (drop place file) (bytes_drop file place small) e a.0 a.1 in
    (a.2 ∙ ap (λ n. place + n) b.0, b.1)

-- the record of an entry
unview : Entry → Record
unview (opens book players) = Open book players
unview (sells seat company tenths) = Sell seat company tenths
unview (buys seat company source par_space) = Buy seat company source par_space
unview (ends seat) = End seat
unview closes = Close
unview (bills company amount) = Bill company amount
unview (pays_out company mode revenue) = Payout company mode revenue
unview (buys_train company kind) = Train company kind
unview (is_done company) = Done company
unview reopens = Reopen

unview_view : (r : Record) → unview (view r) ≡ r
unfolding unview
unview_view (Open book players) = refl
unview_view (Sell seat company tenths) = refl
unview_view (Buy seat company source par_space) = refl
unview_view (End seat) = refl
unview_view Close = refl
unview_view (Bill company amount) = refl
unview_view (Payout company mode revenue) = refl
unview_view (Train company kind) = refl
unview_view (Done company) = refl
unview_view Reopen = refl

pub view_tells_all : ViewTellsAll
view_tells_all r s h = sym (unview_view r) ∙ ap unview h ∙ unview_view s

pub different_writings : DifferentWritings
different_writings d e x y h =
    let f : Ok (d, size d) ≡ Ok (e, size e) = sym (first_written d x) ∙ ap first h ∙ first_written e y in
    let g : (d, size d) ≡ (e, size e) = cc in
    ap (λ (p : Entry × ℕ). p.0) g

pub single_records : SingleRecords
single_records =
    record {
      nothing_past_end = nothing_past_end;
      reads_back = reads_back;
      one_writing = one_writing;
      different_writings = different_writings;
      view_tells_all = view_tells_all;
    }
