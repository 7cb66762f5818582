-- What every call keeps of the books of a table.
use Rattle.std.proofs.Common.{◌≡◌, ◌+◌, ◌≤◌, true, false, List, [], ◌∷◌, None, Ok, Err, sym, refl, ◌∙◌, subst}
use Rattle.rulebook.specs.Book.{Book}
use Rattle.rulebook.specs.Lawful.{Lawful}
use Rattle.ledger.specs.Answers.{Answer}
use Rattle.ledger.specs.Crossings.{Crossing, pays, hands, moves, crossed, all_crossed, with_company}
use Rattle.ledger.specs.Lives.{answer, granted_after, if_granted, after}
use Rattle.ledger.specs.Stock.{sell_crossings, buy_crossings, having_sold, having_bought, turn_ended, closed_stock, with_round}
use Rattle.ledger.specs.Operating.{bill_crossings, payout_crossings, train_crossings, noted_served}
use Rattle.ledger.specs.declared.books.Books.{Books}
use Rattle.ledger.specs.declared.books.Operating.{Operating}
use Rattle.ledger.specs.declared.call.Call.{Call}
use Rattle.ledger.specs.declared.call.Call.TheVariants.{Sell, Buy, End, Close, Bill, Payout, Train, Done, Reopen}
use Rattle.promises.proofs.Companies.{OneOf, next_in}
use Rattle.promises.proofs.Notes.{noted_sound, turned_sound}
use Rattle.promises.proofs.Shapes.{sold, bought, paid_out, served, closing, next_turn, reopened}
use Rattle.promises.proofs.Sound.{Sound, crossings_sound}

pub record Standing (b : Book) (s : Books) : Type 0 where
  pub sound : Sound b s
  pub on_turn : OneOf b.companies s.operating.company

turn_kept : (s : Books) (x : Crossing) → (crossed s x).operating ≡ s.operating
turn_kept s (pays giver receiver marks) = refl
turn_kept s (hands company giver receiver bits) = refl
turn_kept s (moves giver receiver load) = refl

turns_kept : (s : Books) (xs : List Crossing) → (all_crossed s xs).operating ≡ s.operating
turns_kept s [] = refl
turns_kept s (x ∷ xs) = turns_kept (crossed s x) xs ∙ turn_kept s x

module _ (b : Book) (law : Lawful b) (s : Books) (ok : Standing b s) where
  few : b.bank ≤ 50000
  few = law.bank_range.1

  crossed_sound : (xs : List Crossing) → Sound b (all_crossed s xs)
  crossed_sound xs = crossings_sound b few s ok.sound xs

  crossed_turn : (xs : List Crossing) → OneOf b.companies (all_crossed s xs).operating.company
  crossed_turn xs = subst (λ (o : Operating). OneOf b.companies o.company) (sym (turns_kept s xs)) ok.on_turn

  pub granted_standing : (c : Call) → Standing b (granted_after b s c)
  granted_standing (Sell card seat company tenths) =
      let xs = sell_crossings b s seat company tenths in
      let t = all_crossed s xs in
      let r = sold b s seat company tenths in
      record { sound = turned_sound b (with_company t company r) (noted_sound t company r refl b (crossed_sound xs)) t.round (having_sold t.stock seat) t.operating; on_turn = crossed_turn xs }
  granted_standing (Buy card seat company source space) =
      let xs = buy_crossings b s seat company source space in
      let t = all_crossed s xs in
      let r = bought b s seat company source space in
      record { sound = turned_sound b (with_company t company r) (noted_sound t company r refl b (crossed_sound xs)) t.round (having_bought t.stock seat) t.operating; on_turn = crossed_turn xs }
  granted_standing (End card seat) = record { sound = turned_sound b s ok.sound s.round (turn_ended s seat) s.operating; on_turn = ok.on_turn }
  granted_standing (Close card) =
      record {
        sound = turned_sound b s ok.sound (s.round + 1) (closed_stock s) (closing b s);
        on_turn = next_in b (with_round s (s.round + 1) (closed_stock s) (record { company = None; paid = false })) b.companies;
      }
  granted_standing (Bill card company amount) = record { sound = crossed_sound (bill_crossings s company amount); on_turn = crossed_turn (bill_crossings s company amount) }
  granted_standing (Payout card company mode revenue) =
      let xs = payout_crossings s company (b.split mode revenue) in
      let t = all_crossed s xs in
      let r = paid_out b s company mode revenue in
      record { sound = turned_sound b (with_company t company r) (noted_sound t company r refl b (crossed_sound xs)) t.round t.stock (record { company = t.operating.company; paid = true }); on_turn = crossed_turn xs }
  granted_standing (Train card company kind) = record { sound = crossed_sound (train_crossings b s company kind); on_turn = crossed_turn (train_crossings b s company kind) }
  granted_standing (Done card company) =
      let r = served s company in
      record { sound = turned_sound b (with_company s company r) (noted_sound s company r refl b ok.sound) s.round s.stock (next_turn b s company); on_turn = next_in b (noted_served s company) b.companies }
  granted_standing (Reopen card) = record { sound = turned_sound b s ok.sound (s.round + 1) (reopened s) s.operating; on_turn = ok.on_turn }

  by_answer : (c : Call) (a : Answer) → Standing b (if_granted a (granted_after b s c) s)
  by_answer c (Ok _) = granted_standing c
  by_answer c (Err why) = ok

  pub call_standing : (c : Call) → Standing b (after b s c)
  call_standing c = by_answer c (answer b s c)
