-- Whoever is on turn, begins a round or acted last in it is a seat, at every moment of every life.
use Rattle.std.proofs.Common.{◌≡◌, ℕ, ◌≤◌, List, [], ◌∷◌, Some, None, Ok, Err, Option, sym, refl, ◌∙◌, subst, arith}
use Rattle.rulebook.specs.Book.{Book}
use Rattle.rulebook.specs.Lawful.{Between}
use Rattle.ledger.specs.Answers.{Answer, on_stock_turn}
use Rattle.ledger.specs.Crossings.{Crossing, pays, hands, moves, crossed, all_crossed}
use Rattle.ledger.specs.Lives.{answer, granted_after, if_granted, after}
use Rattle.ledger.specs.Opening.{opened}
use Rattle.ledger.specs.Operating.{bill_crossings, payout_crossings, train_crossings}
use Rattle.ledger.specs.Stock.{sell_crossings, buy_crossings, next_first}
use Rattle.ledger.specs.declared.books.Books.{Books}
use Rattle.ledger.specs.declared.books.Stock.{Stock}
use Rattle.ledger.specs.declared.call.Call.{Call}
use Rattle.ledger.specs.declared.call.Call.TheVariants.{Sell, Buy, End, Close, Bill, Payout, Train, Done, Reopen}
use Rattle.promises.specs.Lives.{lived}
use Rattle.promises.proofs.Companies.{OneOf}
use Rattle.promises.proofs.Granted.{both_granted}
use Rattle.promises.proofs.Seats.{seat_after_in}
use Rattle.promises.proofs.Turns.{stock_turn}

pub record Seated (players : ℕ) (k : Stock) : Type 0 where
  pub turn_seat : Between 1 players k.turn
  pub first_seat : Between 1 players k.first
  pub last_seat : OneOf players k.last

abbrev pub AllSeated : Books → Type 0
AllSeated s = Seated s.players s.stock

crossing_seated : (s : Books) → AllSeated s → (x : Crossing) → AllSeated (crossed s x)
crossing_seated s ok (pays giver receiver marks) = ok
crossing_seated s ok (hands company giver receiver bits) = ok
crossing_seated s ok (moves giver receiver load) = ok

crossings_seated : (s : Books) → AllSeated s → (xs : List Crossing) → AllSeated (all_crossed s xs)
crossings_seated s ok [] = ok
crossings_seated s ok (x ∷ xs) = crossings_seated (crossed s x) (crossing_seated s ok x) xs

crossing_players : (s : Books) (x : Crossing) → (crossed s x).players ≡ s.players
crossing_players s (pays giver receiver marks) = refl
crossing_players s (hands company giver receiver bits) = refl
crossing_players s (moves giver receiver load) = refl

crossings_players : (s : Books) (xs : List Crossing) → (all_crossed s xs).players ≡ s.players
crossings_players s [] = refl
crossings_players s (x ∷ xs) = crossings_players (crossed s x) xs ∙ crossing_players s x

next_first_in : (s : Books) → AllSeated s → (o : Option ℕ) → OneOf s.players o → Between 1 s.players (next_first s o)
next_first_in s ok None p = ok.first_seat
next_first_in s ok (Some last) p = seat_after_in s last p.0 p.1 1

module _ (b : Book) (s : Books) (ok : AllSeated s) where
  -- a seat of the books is one after any crossings
  still_seat : (xs : List Crossing) (seat : ℕ) → Between 1 s.players seat → Between 1 (all_crossed s xs).players seat
  still_seat xs seat p = subst (λ n. Between 1 n seat) (sym (crossings_players s xs)) p

  granted_seated : (c : Call) → answer b s c ≡ Ok tt → AllSeated (granted_after b s c)
  granted_seated (Sell card seat company tenths) e =
      let xs = sell_crossings b s seat company tenths in
      let there = crossings_seated s ok xs in
      record {
        turn_seat = there.turn_seat;
        first_seat = there.first_seat;
        last_seat = still_seat xs seat (stock_turn s card seat (both_granted (on_stock_turn s card seat) _ e).0);
      }
  granted_seated (Buy card seat company source space) e =
      let xs = buy_crossings b s seat company source space in
      let there = crossings_seated s ok xs in
      record {
        turn_seat = there.turn_seat;
        first_seat = there.first_seat;
        last_seat = still_seat xs seat (stock_turn s card seat (both_granted (on_stock_turn s card seat) _ e).0);
      }
  granted_seated (End card seat) e =
      let p = stock_turn s card seat e in
      record { turn_seat = seat_after_in s seat p.0 p.1 1; first_seat = ok.first_seat; last_seat = ok.last_seat }
  granted_seated (Close card) e =
      record { turn_seat = ok.turn_seat; first_seat = next_first_in s ok s.stock.last ok.last_seat; last_seat = ok.last_seat }
  granted_seated (Bill card company amount) e = crossings_seated s ok (bill_crossings s company amount)
  granted_seated (Payout card company mode revenue) e = crossings_seated s ok (payout_crossings s company (b.split mode revenue))
  granted_seated (Train card company kind) e = crossings_seated s ok (train_crossings b s company kind)
  granted_seated (Done card company) e = ok
  granted_seated (Reopen card) e = record { turn_seat = ok.first_seat; first_seat = ok.first_seat; last_seat = tt }

  by_answer : (c : Call) (a : Answer) → answer b s c ≡ a → AllSeated (if_granted a (granted_after b s c) s)
  by_answer c (Ok _) e = granted_seated c e
  by_answer c (Err why) e = ok

  call_seated : (c : Call) → AllSeated (after b s c)
  call_seated c = by_answer c (answer b s c) refl

pub life_seated : (b : Book) (start : Books) → AllSeated start → (life : List Call) → AllSeated (lived b start life)
life_seated b start ok [] = ok
life_seated b start ok (c ∷ earlier) = call_seated b (lived b start earlier) (life_seated b start ok earlier) c

pub opening_seated : (b : Book) (players cash : ℕ) → 2 ≤ players → AllSeated (opened b players cash)
opening_seated b players cash two =
    record { turn_seat = (omega arith, omega arith); first_seat = (omega arith, omega arith); last_seat = tt }
