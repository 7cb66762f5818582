-- Records that are played with no fault are calls that are granted, and these lead to the same books.
use Rattle.std.proofs.Common.{◌≡◌, ℕ, ◌+◌, ◌≤◌, Bool, true, false, cond, ltb, List, [], ◌∷◌, ◌++◌, reverse, length, Some, None, Ok, Err, fold, Option, sym, refl, ap, ◌∙◌, subst, arith}
use Rattle.faults.specs.Layers.{in_call, at_place}
use Rattle.faults.specs.declared.file.FileFault.{FileFault}
use Rattle.faults.specs.declared.file.FileRefusal.TheVariants.{OtherRound, FileTooLong}
use Rattle.faults.specs.declared.table.CallName.TheVariants.{Open}
use Rattle.entries.specs.Entry.{Entry, opens, sells, buys, ends, closes, bills, pays_out, buys_train, is_done, reopens}
use Rattle.entries.specs.Whole.{reading}
use Rattle.rulebook.specs.Book.{Book}
use Rattle.rulebook.specs.Lawful.{Lawful}
use Rattle.catalogue.specs.Printed.{printed_meaning, numbered}
use Rattle.catalogue.specs.declared.books.PrintedBook.{PrintedBook}
use Rattle.catalogue.specs.Ranges.{printed_lawful}
use Rattle.ledger.specs.Answers.{Answer, odd}
use Rattle.ledger.specs.Lives.{answer, after}
use Rattle.ledger.specs.Opening.{opened, opened_with, open_answer}
use Rattle.ledger.specs.declared.books.Books.{Books}
use Rattle.ledger.specs.declared.call.Call.{Call}
use Rattle.ledger.specs.declared.call.Call.TheVariants.{Sell, Buy, End, Close, Bill, Payout, Train, Done, Reopen}
use Rattle.promises.specs.Lives.{lived}
use Rattle.table.specs.Bounds.{Bounded}
use Rattle.table.proofs.Compared.{starts_bounded, lived_led}
use Rattle.table.proofs.Ranges.{kept_bounded}
use Rattle.replay.specs.Calls.{call_of, name_of, belongs}
use Rattle.replay.specs.Playing.{Played, fault_of, next_card, call_played, not_made, asked, record_played, play_on, played}
use Rattle.replay.specs.Whole.{SeenGame, Replayed, refused_at, from_opening, from_book, from_first, from_records, replayed}
use Rattle.replay.proofs.OwnCard.{card_of_round}
use Rattle.file_calls.specs.Calls.{next_number, card_then, listed, calls_from, file_calls}
use Rattle.file_calls.specs.Laws.{LifeOfFile}
use Rattle.file_calls.proofs.Players.{all_players}

no_fault : {P : Type 0} (fault : FileFault) → ◌≡◌ {A = Option FileFault} (Some fault) None → P
no_fault fault e = let z : ◌≡◌ {A = ℕ} 0 1 = cc in absurd (omega arith)

no_game : {P : Type 0} (g : SeenGame) → ◌≡◌ {A = Option SeenGame} None (Some g) → P
no_game g e = let z : ◌≡◌ {A = ℕ} 0 1 = cc in absurd (omega arith)

module _ (b : Book) (s : Books) (card : ℕ) (own : card ≡ s.round) (few : s.round ≤ 9999) where
  -- the card that is then held is the next one of the list
  same_card : (x : Entry) (c : Call) → call_of card x ≡ Some c → next_card (Ok tt) s card c ≡ card_then card x
  same_card (opens book players) c e = let z : ◌≡◌ {A = ℕ} 0 1 = cc in absurd (omega arith)
  same_card (sells seat company tenths) c e = let f : c ≡ Sell card seat company tenths = cc in ap (next_card (Ok tt) s card) f
  same_card (buys seat company source par_space) c e = let f : c ≡ Buy card seat company source par_space = cc in ap (next_card (Ok tt) s card) f
  same_card (ends seat) c e = let f : c ≡ End card seat = cc in ap (next_card (Ok tt) s card) f
  same_card closes c e = let f : c ≡ Close card = cc in let n : s.round + 1 ≡ next_number card = omega arith in ap (next_card (Ok tt) s card) f ∙ n
  same_card (bills company amount) c e = let f : c ≡ Bill card company amount = cc in ap (next_card (Ok tt) s card) f
  same_card (pays_out company mode revenue) c e = let f : c ≡ Payout card company mode revenue = cc in ap (next_card (Ok tt) s card) f
  same_card (buys_train company kind) c e = let f : c ≡ Train card company kind = cc in ap (next_card (Ok tt) s card) f
  same_card (is_done company) c e = let f : c ≡ Done card company = cc in ap (next_card (Ok tt) s card) f
  same_card reopens c e = let f : c ≡ Reopen card = cc in let n : s.round + 1 ≡ next_number card = omega arith in ap (next_card (Ok tt) s card) f ∙ n

-- what a record with no fault is
pub record Made (b : Book) (s : Books) (card : ℕ) (o : Option Call) (p : Played) : Type 0 where
  pub call : Call
  pub asks : o ≡ Some call
  pub leaves : p.0 ≡ after b s call
  pub holds : p.1 ≡ next_card (Ok tt) s card call

made : (b : Book) (s : Books) (card place : ℕ) (stock : Bool) (o : Option Call) → (asked b s stock card place o).2 ≡ None → Made b s card o (asked b s stock card place o)
made b s card place stock None e = no_fault _ e
made b s card place stock (Some c) e = by_sort (belongs stock c) e
  where
    by_answer : (a : Answer) → answer b s c ≡ a → fault_of (at_place place (in_call (name_of c) a)) ≡ None → next_card (answer b s c) s card c ≡ next_card (Ok tt) s card c
    by_answer (Ok x) is f = ap (λ (a : Answer). next_card a s card c) is
    by_answer (Err why) is f = no_fault _ f

    by_sort : (t : Bool) → (cond t (call_played b s card place c) (not_made s card place OtherRound)).2 ≡ None → Made b s card (Some c) (cond t (call_played b s card place c) (not_made s card place OtherRound))
    by_sort true f = record { call = c; asks = refl; leaves = refl; holds = by_answer (answer b s c) refl f }
    by_sort false f = no_fault _ f

module _ (b : Book) (law : Lawful b) (ending : Option FileFault) where
  pub led : (records : List (ℕ × Entry)) (s : Books) → Bounded s → (card : ℕ) → card ≡ s.round → (played b s card records ending).2 ≡ None
      → (played b s card records ending).0 ≡ fold (after b) s (calls_from card records)
  led [] s ok card own e = refl
  led (p ∷ rest) s ok card own e =
      on (record_played b s card p.0 p.1) (λ f. made b s card p.0 (odd card) (call_of card p.1) f) (right p.0 p.1) (λ t kept next fits f. led rest t kept next fits f) e
    where
      right : (place : ℕ) (x : Entry) → (record_played b s card place x).1 ≡ (record_played b s card place x).0.round
      right place x = subst (λ (n : ℕ). (record_played b s n place x).1 ≡ (record_played b s n place x).0.round) (sym own) (card_of_round b s place (odd s.round) (call_of s.round x))

      on : (q : Played) → (q.2 ≡ None → Made b s card (call_of card p.1) q) → q.1 ≡ q.0.round
          → ((t : Books) → Bounded t → (next : ℕ) → next ≡ t.round → (played b t next rest ending).2 ≡ None → (played b t next rest ending).0 ≡ fold (after b) t (calls_from next rest))
          → (play_on q (λ t next. played b t next rest ending)).2 ≡ None
          → (play_on q (λ t next. played b t next rest ending)).0 ≡ fold (after b) s (calls_from card (p ∷ rest))
      on (t, next, Some fault) one fits later f = no_fault _ f
      on (t, next, None) one fits later f =
          let m = one refl in
          let c = m.call in
          let kept = kept_bounded b law s ok c t m.leaves in
          let held : next ≡ card_then card p.1 = m.holds ∙ same_card b s card own ok.counted p.1 c m.asks in
          later t kept next fits f
          ∙ ap (λ (k : ℕ). fold (after b) t (calls_from k rest)) held
          ∙ ap (λ (u : Books). fold (after b) u (calls_from (card_then card p.1) rest)) m.leaves
          ∙ ap (λ (o : Option Call). fold (after b) s (listed o ++ calls_from (card_then card p.1) rest)) (sym m.asks)

-- so much is told of a replay
abbrev Told : List Call → Replayed → Type 0
Told calls r = (g : SeenGame) → r.game ≡ Some g → r.fault ≡ None → (cash : ℕ) × ((printed_meaning g.book).opening g.books.players ≡ Some cash)
    × (g.books ≡ lived (printed_meaning g.book) (opened (printed_meaning g.book) g.books.players cash) (reverse calls))

module _ (place : ℕ) (rest : List (ℕ × Entry)) (ending : Option FileFault) where
  opening_told : (book : PrintedBook) (players : ℕ) (o : Option ℕ) → (printed_meaning book).opening players ≡ o
      → Told (calls_from 1 rest) (from_opening place rest ending book (at_place place (in_call Open (opened_with (printed_meaning book) players o))))
  opening_told book players None e g there f = no_game g there
  opening_told book players (Some cash) e g there f =
      let b = printed_meaning book in
      let start = opened b players cash in
      let law = printed_lawful book in
      let granted : open_answer b players ≡ Ok start = ap (opened_with b players) e in
      let led_there = led b law ending rest start (starts_bounded b law players start granted) 1 refl f in
      let all = fold (after b) start (calls_from 1 rest) in
      let seated : all.players ≡ players = all_players b start (calls_from 1 rest) in
      let here : g ≡ record { book = book; books = (played b start 1 rest ending).0; card = (played b start 1 rest ending).1 } = cc in
      let found : (cash : ℕ) × (b.opening (played b start 1 rest ending).0.players ≡ Some cash)
      × ((played b start 1 rest ending).0 ≡ lived b (opened b (played b start 1 rest ending).0.players cash) (reverse (calls_from 1 rest))) =
      let n : (played b start 1 rest ending).0.players ≡ players = ap (λ (t : Books). t.players) led_there ∙ seated in (
        cash,
        ap b.opening n ∙ e,
        led_there ∙ sym (lived_led b start (calls_from 1 rest)) ∙ ap (λ (k : ℕ). lived b (opened b k cash) (reverse (calls_from 1 rest))) (sym n),
      ) in
      subst
      (λ (h : SeenGame). (cash : ℕ) × ((printed_meaning h.book).opening h.books.players ≡ Some cash)
      × (h.books ≡ lived (printed_meaning h.book) (opened (printed_meaning h.book) h.books.players cash) (reverse (calls_from 1 rest))))
      (sym here) found

  book_told : (o : Option PrintedBook) (players : ℕ) → Told (calls_from 1 rest) (from_book place rest ending o players)
  book_told None players g there f = no_game g there
  book_told (Some book) players g there f = opening_told book players ((printed_meaning book).opening players) refl g there f

  first_told : (x : Entry) → Told (calls_from 1 ((place, x) ∷ rest)) (from_first place rest ending x)
  first_told (opens number players) g there f = book_told (numbered number) players g there f
  first_told (sells seat company tenths) g there f = no_game g there
  first_told (buys seat company source par_space) g there f = no_game g there
  first_told (ends seat) g there f = no_game g there
  first_told closes g there f = no_game g there
  first_told (bills company amount) g there f = no_game g there
  first_told (pays_out company mode revenue) g there f = no_game g there
  first_told (buys_train company kind) g there f = no_game g there
  first_told (is_done company) g there f = no_game g there
  first_told reopens g there f = no_game g there

records_told : (records : List (ℕ × Entry)) (ending : Option FileFault) → Told (calls_from 1 records) (from_records records ending)
records_told [] None g there f = no_game g there
records_told [] (Some fault) g there f = no_game g there
records_told (p ∷ rest) ending g there f = first_told p.0 rest ending p.1 g there f

file_told : (file : List ℕ) (t : Bool) → Told (file_calls file) (cond t (refused_at 0 FileTooLong) (from_records (reading file).0 (reading file).1))
file_told file true g there f = no_game g there
file_told file false g there f = records_told (reading file).0 (reading file).1 g there f

pub life_of_file : (file : List ℕ) (g : SeenGame) → (replayed file).game ≡ Some g → (replayed file).fault ≡ None → LifeOfFile file g
life_of_file file g there f =
    let told = file_told file (ltb 65536 (length file)) g there f in
    record { cash = told.0; opening = told.1; reached = told.2 }
