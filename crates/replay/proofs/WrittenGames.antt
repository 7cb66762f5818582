-- The file of a granted game, and files that go on after it.
use Rattle.std.proofs.Common.{◌≡◌, ℕ, ◌+◌, ◌<◌, ◌≤◌, Bool, List, [], ◌∷◌, ◌++◌, map, length, Some, None, Ok, Err, fold, Option, sym, refl, ap, ◌∙◌, append-nil, arith, length-append}
use Rattle.std.proofs.lemmas.List.{drop_at}
use Rattle.std.proofs.lemmas.Bool.{cond_both, le-ltb}
use Rattle.faults.specs.Layers.{in_call, at_place}
use Rattle.faults.specs.declared.file.FileFault.{FileFault}
use Rattle.faults.specs.declared.file.FileRefusal.{FileRefusal}
use Rattle.faults.specs.declared.table.CallName.TheVariants.{Open as open_name}
use Rattle.entries.specs.Entry.{Entry, opens}
use Rattle.entries.specs.Reading.{first, from_place, read_at}
use Rattle.entries.specs.Whole.{Outcome, reading_by, reading, placed_from}
use Rattle.entries.specs.Writing.{writing, size}
use Rattle.entries.proofs.OneWriting.{first_written}
use Rattle.entries.proofs.Steps.{at_end, stops, goes_on}
use Rattle.rulebook.specs.Book.{Book}
use Rattle.catalogue.specs.Printed.{printed_meaning}
use Rattle.catalogue.specs.declared.books.PrintedBook.{PrintedBook}
use Rattle.ledger.specs.Answers.{Answer, odd}
use Rattle.ledger.specs.Lives.{answer, after, granted_after, if_granted}
use Rattle.ledger.specs.Opening.{opened, opened_with}
use Rattle.ledger.specs.declared.books.Books.{Books}
use Rattle.ledger.specs.declared.call.Call.{Call}
use Rattle.ledger.specs.declared.call.Call.TheVariants.{Sell, Buy, End, Close, Bill, Payout, Train, Done, Reopen}
use Rattle.replay.specs.Calls.{call_of, name_of, belongs}
use Rattle.replay.specs.Laws.{entry_of, AllGranted, GrantedGame, books_of, file_of, FilesOfGames}
use Rattle.replay.specs.Playing.{Played, fault_of, next_card, asked, record_played, play_on, played, all_played}
use Rattle.replay.specs.Whole.{game_played, from_opening, from_book, from_records, replayed}
use Rattle.replay.proofs.Fronts.{reads_front}
use Rattle.replay.proofs.OwnCard.{granted_played}

-- granted calls are played as they were made, and then comes what follows
calls_played : (b : Book) (calls : List Call) (s : Books) (place : ℕ) (rest : List (ℕ × Entry)) (ending : Option FileFault) → AllGranted b s calls
    → played b s s.round (placed_from place (map entry_of calls) ++ rest) ending ≡ played b (fold (after b) s calls) (fold (after b) s calls).round rest ending
calls_played b [] s place rest ending ok = refl
calls_played b (c ∷ calls) s place rest ending ok =
    let records = placed_from (place + size (entry_of c)) (map entry_of calls) ++ rest in
    let later : Books → ℕ → Played = λ t next. played b t next records ending in
    ap (λ (p : Played). play_on p later) (granted_played b s c place ok.0) ∙ calls_played b calls (after b s c) (place + size (entry_of c)) rest ending ok.1

by_outcome : (file : List ℕ) → length file ≤ 65536 → (o : Outcome) → reading file ≡ o → replayed file ≡ from_records o.0 o.1
by_outcome file short o e = rw (le-ltb 65536 (length file) short) (ap (λ (p : Outcome). from_records p.0 p.1) e)

-- what follows the writings of a granted game is played from its books
goes_on_from : (g : GrantedGame) (rest : List ℕ) → let file = file_of g ++ rest in length file ≤ 65536
    → replayed file ≡ game_played g.book (all_played (printed_meaning g.book) (books_of g) (books_of g).round (reading_by (length file) file (length (file_of g))))
goes_on_from g rest short =
    let file = file_of g ++ rest in
    let b = printed_meaning g.book in
    let es = map entry_of g.calls in
    let opening = opens g.number g.players in
    let o = reading_by (length file) file (length (file_of g)) in
    let records = placed_from (size opening) es ++ o.0 in
    by_outcome file short _ (reads_front (opening ∷ es) rest)
    ∙ ap (λ (k : Option PrintedBook). from_book 0 records o.1 k g.players) g.known
    ∙ ap (λ (k : Option ℕ). from_opening 0 records o.1 g.book (at_place 0 (in_call open_name (opened_with b g.players k)))) g.opening
    ∙ ap (game_played g.book) (calls_played b g.calls (opened b g.players g.cash) (size opening) o.0 o.1 g.granted)

-- a record that is refused leaves books and card as they were
module _ (b : Book) (s : Books) (card place : ℕ) (fault : FileFault) where
  abbrev LeftIfRefused : Played → Type 0
  LeftIfRefused p = p.2 ≡ Some fault → p ≡ (s, card, Some fault)

  left_so : (t : Books) (held : ℕ) (f : Option FileFault) → t ≡ s → held ≡ card → LeftIfRefused (t, held, f)
  left_so t held f p q e = cc

  same_card : (c : Call) (why : _) → next_card (Err why) s card c ≡ card
  same_card (Sell _ seat company tenths) why = refl
  same_card (Buy _ seat company source par) why = refl
  same_card (End _ seat) why = refl
  same_card (Close _) why = refl
  same_card (Bill _ company amount) why = refl
  same_card (Payout _ company mode revenue) why = refl
  same_card (Train _ company kind) why = refl
  same_card (Done _ company) why = refl
  same_card (Reopen _) why = refl

  call_left : (c : Call) (a : Answer) → LeftIfRefused (if_granted a (granted_after b s c) s, next_card a s card c, fault_of (at_place place (in_call (name_of c) a)))
  call_left c (Ok x) e = let z : ◌≡◌ {A = ℕ} 0 1 = cc in absurd (omega arith)
  call_left c (Err why) e = left_so s _ _ refl (same_card c why) e

  asked_left : (stock : Bool) (o : Option Call) → LeftIfRefused (asked b s stock card place o)
  asked_left stock None = λ e. left_so s card _ refl refl e
  asked_left stock (Some c) = cond_both (belongs stock c) _ _ LeftIfRefused (λ _. call_left c (answer b s c)) (λ _ e. left_so s card _ refl refl e)

whole : (g : GrantedGame) → length (file_of g) ≤ 65536 → replayed (file_of g) ≡ game_played g.book (books_of g, (books_of g).round, None)
whole g short =
    let b = printed_meaning g.book in
    let file = file_of g ++ [] in
    let same : file ≡ file_of g = append-nil (file_of g) in
    let l : length file ≤ 65536 = omega (arith, ap length same) in
    ap replayed (sym same) ∙ goes_on_from g [] l ∙ ap (λ (o : Outcome). game_played g.book (all_played b (books_of g) (books_of g).round o)) (at_end (length file) file (length (file_of g)) (omega (arith, ap length same)))

refused :
    (g : GrantedGame) (e : Entry) (more : List ℕ) (why : FileRefusal)
    → (record_played (printed_meaning g.book) (books_of g) (books_of g).round (length (file_of g)) e).2 ≡ Some (record { refusal = why; place = length (file_of g) })
    → length (file_of g ++ (writing e ++ more)) ≤ 65536
    → replayed (file_of g ++ (writing e ++ more)) ≡ game_played g.book (books_of g, (books_of g).round, Some (record { refusal = why; place = length (file_of g) }))
refused g e more why not_granted short =
    let b = printed_meaning g.book in
    let s = books_of g in
    let end = length (file_of g) in
    let rest = writing e ++ more in
    let file = file_of g ++ rest in
    let there : end < length file = omega (arith, length-append (file_of g) rest) in
    let got : read_at file end ≡ Ok (e, end + size e) = ap (λ l. from_place end (first l)) (drop_at (file_of g) rest end refl) ∙ ap (from_place end) (first_written e more) in
    let step = goes_on file end there (length file) e (end + size e) (omega arith) got (omega arith) in
    let o = reading_by step.0 file (end + size e) in
    let left = asked_left b s s.round end (record { refusal = why; place = end }) (odd s.round) (call_of s.round e) not_granted in
    goes_on_from g rest short
    ∙ ap (λ (r : Outcome). game_played g.book (all_played b s s.round r)) step.2
    ∙ ap (λ (p : Played). game_played g.book (play_on p (λ t next. played b t next o.0 o.1))) left

no_record :
    (g : GrantedGame) (rest : List ℕ) (why : FileRefusal) → 0 < length rest → first rest ≡ Err why → length (file_of g ++ rest) ≤ 65536
    → replayed (file_of g ++ rest) ≡ game_played g.book (books_of g, (books_of g).round, Some (record { refusal = why; place = length (file_of g) }))
no_record g rest why some bad short =
    let b = printed_meaning g.book in
    let end = length (file_of g) in
    let file = file_of g ++ rest in
    let there : end < length file = omega (arith, length-append (file_of g) rest) in
    let got : read_at file end ≡ Err (record { refusal = why; place = end }) = ap (λ l. from_place end (first l)) (drop_at (file_of g) rest end refl) ∙ ap (from_place end) bad in
    goes_on_from g rest short
    ∙ ap (λ (r : Outcome). game_played g.book (all_played b (books_of g) (books_of g).round r)) (stops file end there (length file) _ (omega arith) got)

pub files_of_games : FilesOfGames
files_of_games = record { whole = whole; refused = refused; no_record = no_record }
