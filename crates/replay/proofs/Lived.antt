-- The books that records leave are those of a life, and the card is that of the round.
use Rattle.std.proofs.Common.{◌≡◌, ℕ, Bool, ltb, List, [], ◌∷◌, ◌++◌, length, drop, Some, None, Option, sym, refl, ap, ◌∙◌, subst}
use Rattle.std.proofs.lemmas.Bool.{cond_both}
use Rattle.faults.specs.Layers.{in_call, at_place}
use Rattle.faults.specs.declared.file.FileFault.{FileFault}
use Rattle.faults.specs.declared.file.FileRefusal.TheVariants.{FileTooLong}
use Rattle.faults.specs.declared.table.CallName.TheVariants.{Open}
use Rattle.entries.specs.Entry.{Entry, opens, sells, buys, ends, closes, bills, pays_out, buys_train, is_done, reopens}
use Rattle.entries.specs.Whole.{reading}
use Rattle.rulebook.specs.Book.{Book}
use Rattle.catalogue.specs.Printed.{printed_meaning, numbered}
use Rattle.catalogue.specs.declared.books.PrintedBook.{PrintedBook}
use Rattle.catalogue.specs.Ranges.{printed_lawful}
use Rattle.ledger.specs.Answers.{odd}
use Rattle.ledger.specs.Lives.{after}
use Rattle.ledger.specs.Opening.{opened, opened_with}
use Rattle.ledger.specs.declared.books.Books.{Books}
use Rattle.ledger.specs.declared.call.Call.{Call}
use Rattle.promises.specs.Lives.{lived}
use Rattle.promises.proofs.Whole.{all_lives_stand}
use Rattle.replay.specs.Calls.{call_of, belongs}
use Rattle.replay.specs.Laws.{LedOn, Stands}
use Rattle.replay.specs.Playing.{Played, asked, record_played, play_on, played}
use Rattle.replay.specs.Whole.{Replayed, refused_at, from_opening, from_book, from_first, from_records, replayed}
use Rattle.replay.proofs.OwnCard.{card_of_round}

-- a life that goes on from the books of another
lived_on : (b : Book) (s : Books) (later earlier : List Call) → lived b (lived b s earlier) later ≡ lived b s (later ++ earlier)
lived_on b s [] earlier = refl
lived_on b s (c ∷ later) earlier = ap (λ (t : Books). after b t c) (lived_on b s later earlier)

one_record : (b : Book) (s : Books) (card place : ℕ) (stock : Bool) (o : Option Call) → LedOn b s (asked b s stock card place o).0
one_record b s card place stock None = record { calls = []; reached = refl }
one_record b s card place stock (Some c) =
    cond_both (belongs stock c) _ _ (λ (q : Played). LedOn b s q.0) (λ _. record { calls = c ∷ []; reached = refl }) (λ _. record { calls = []; reached = refl })

led_further : (b : Book) (s : Books) (p : Played) → LedOn b s p.0 → (later : Books → ℕ → Played) → ((t : Books) (card : ℕ) → LedOn b t (later t card).0) → LedOn b s (play_on p later).0
led_further b s (t, card, None) first later all =
    let rest = all t card in
    record {
      calls = rest.calls ++ first.calls;
      reached = rest.reached ∙ ap (λ (z : Books). lived b z rest.calls) first.reached ∙ lived_on b s rest.calls first.calls;
    }
led_further b s (t, card, Some fault) first later all = first

pub led : (b : Book) (records : List (ℕ × Entry)) (ending : Option FileFault) (s : Books) (card : ℕ) → LedOn b s (played b s card records ending).0
led b [] ending s card = record { calls = []; reached = refl }
led b (p ∷ rest) ending s card =
    led_further b s _ (one_record b s card p.0 (odd card) (call_of card p.1)) (λ t next. played b t next rest ending) (λ t next. led b rest ending t next)

-- the card is that of the round
abbrev Right : Played → Type 0
Right p = p.1 ≡ p.0.round

right_further : (p : Played) → Right p → (later : Books → ℕ → Played) → ((t : Books) (card : ℕ) → card ≡ t.round → Right (later t card)) → Right (play_on p later)
right_further (t, card, None) ok later all = all t card ok
right_further (t, card, Some fault) ok later all = ok

pub right_card : (b : Book) (records : List (ℕ × Entry)) (ending : Option FileFault) (s : Books) (card : ℕ) → card ≡ s.round → Right (played b s card records ending)
right_card b [] ending s card e = e
right_card b (p ∷ rest) ending s card e =
    let own : Right (record_played b s card p.0 p.1) = subst (λ (n : ℕ). Right (record_played b s n p.0 p.1)) (sym e) (card_of_round b s p.0 (odd s.round) (call_of s.round p.1)) in
    right_further _ own (λ t next. played b t next rest ending) (λ t next. right_card b rest ending t next)

module _ (place : ℕ) (rest : List (ℕ × Entry)) (ending : Option FileFault) where
  opening_stands : (book : PrintedBook) (players : ℕ) (o : Option ℕ) → (printed_meaning book).opening players ≡ o
      → Stands (from_opening place rest ending book (at_place place (in_call Open (opened_with (printed_meaning book) players o)))).game
  opening_stands book players None e = tt
  opening_stands book players (Some cash) e =
      let b = printed_meaning book in
      let start = opened b players cash in
      let all = led b rest ending start 1 in
      record {
        life = record {
          players = players;
          cash = cash;
          opening = e;
          calls = all.calls;
          reached = all.reached;
          moments = λ i other. all_lives_stand b (printed_lawful book) players cash e (drop i all.calls) other;
        };
        card = right_card b rest ending start 1 refl;
      }

  book_stands : (o : Option PrintedBook) (players : ℕ) → Stands (from_book place rest ending o players).game
  book_stands None players = tt
  book_stands (Some book) players = opening_stands book players ((printed_meaning book).opening players) refl

  first_stands : (e : Entry) → Stands (from_first place rest ending e).game
  first_stands (opens number players) = book_stands (numbered number) players
  first_stands (sells seat company tenths) = tt
  first_stands (buys seat company source par_space) = tt
  first_stands (ends seat) = tt
  first_stands closes = tt
  first_stands (bills company amount) = tt
  first_stands (pays_out company mode revenue) = tt
  first_stands (buys_train company kind) = tt
  first_stands (is_done company) = tt
  first_stands reopens = tt

records_stand : (records : List (ℕ × Entry)) (ending : Option FileFault) → Stands (from_records records ending).game
records_stand [] None = tt
records_stand [] (Some fault) = tt
records_stand (p ∷ rest) ending = first_stands p.0 rest ending p.1

every_game_stands : (file : List ℕ) → Stands (replayed file).game
every_game_stands file =
    cond_both (ltb 65536 (length file)) (refused_at 0 FileTooLong) (from_records (reading file).0 (reading file).1) (λ (r : Replayed). Stands r.game) (λ _. tt) (λ _. records_stand (reading file).0 (reading file).1)

-- said of what replay answers
pub so_stands : (file : List ℕ) (r : Replayed) → r ≡ replayed file → Stands r.game
so_stands file r e = subst (λ (p : Replayed). Stands p.game) (sym e) (every_game_stands file)
