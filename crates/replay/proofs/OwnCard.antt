-- A granted call is made with the card of its round, and the card that is then held is that of the round then.
use Rattle.std.proofs.Common.{◌≡◌, ℕ, Bool, true, false, cond, not, ◌&&◌, eqb, Some, None, Ok, Err, Option, sym, refl, ap, ◌∙◌, arith}
use Rattle.std.proofs.lemmas.Bool.{cond_both, not-false, eqb-true}
use Rattle.faults.specs.Layers.{in_call, at_place}
use Rattle.faults.specs.declared.file.FileFault.{FileFault}
use Rattle.faults.specs.declared.file.FileRefusal.TheVariants.{OtherRound}
use Rattle.faults.specs.declared.table.TableRefusal.TheVariants.{WrongCard}
use Rattle.rulebook.specs.Book.{Book}
use Rattle.ledger.specs.Answers.{Answer, odd, refused_if, on_stock_turn, on_operating_turn}
use Rattle.ledger.specs.Lives.{answer, after, granted_after, if_granted, crossings_of}
use Rattle.ledger.specs.declared.books.Books.{Books}
use Rattle.ledger.specs.declared.call.Call.{Call}
use Rattle.ledger.specs.declared.call.Call.TheVariants.{Sell, Buy, End, Close, Bill, Payout, Train, Done, Reopen}
use Rattle.ledger.proofs.Crossed.{all_same_round}
use Rattle.promises.proofs.Granted.{both_granted, test_passed}
use Rattle.replay.specs.Calls.{call_of, name_of, belongs}
use Rattle.replay.specs.Laws.{entry_of}
use Rattle.replay.specs.Playing.{Played, fault_of, next_card, call_played, not_made, asked, record_played}

pub triple : {s t : Books} {card held : ℕ} {fault told : Option FileFault} → s ≡ t → card ≡ held → fault ≡ told → ◌≡◌ {A = Played} (s, card, fault) (t, held, told)
triple p q r = cc

both_true : (x y : Bool) → (x && y) ≡ true → (x ≡ true) × (y ≡ true)
both_true true y e = (refl, e)
both_true false y e = let z : ◌≡◌ {A = ℕ} 0 1 = cc in absurd (omega arith)

abbrev card_of : Call → ℕ
card_of (Sell card seat company tenths) = card
card_of (Buy card seat company source par) = card
card_of (End card seat) = card
card_of (Close card) = card
card_of (Bill card company amount) = card
card_of (Payout card company mode revenue) = card
card_of (Train card company kind) = card
card_of (Done card company) = card
card_of (Reopen card) = card

-- what the first test of a call says
first_test : (s : Books) (card : ℕ) (sort : Bool) (a : Answer) → refused_if (not (eqb card s.round && sort)) WrongCard a ≡ Ok tt → (card ≡ s.round) × (sort ≡ true)
first_test s card sort a e =
    let both = both_true (eqb card s.round) sort (not-false _ (test_passed _ WrongCard a e).0) in
    (eqb-true card s.round both.0, both.1)

module _ (b : Book) (s : Books) where
  own_card : (c : Call) → answer b s c ≡ Ok tt → (card_of c ≡ s.round) × (belongs (odd s.round) c ≡ true)
  own_card (Sell card seat company tenths) e = first_test s card _ _ (both_granted (on_stock_turn s card seat) _ e).0
  own_card (Buy card seat company source par) e = first_test s card _ _ (both_granted (on_stock_turn s card seat) _ e).0
  own_card (End card seat) e = first_test s card _ _ e
  own_card (Close card) e = first_test s card _ _ e
  own_card (Bill card company amount) e = first_test s card _ _ (both_granted (on_operating_turn s card company) _ e).0
  own_card (Payout card company mode revenue) e = first_test s card _ _ (both_granted (on_operating_turn s card company) _ e).0
  own_card (Train card company kind) e = first_test s card _ _ (both_granted (on_operating_turn s card company) _ e).0
  own_card (Done card company) e = first_test s card _ _ (both_granted (on_operating_turn s card company) _ e).0
  own_card (Reopen card) e = first_test s card _ _ e

  same_round : (a : Answer) (t : Books) → t.round ≡ s.round → s.round ≡ (if_granted a t s).round
  same_round (Ok x) t e = sym e
  same_round (Err why) t e = refl

  -- granted or refused
  card_follows : (c : Call) (a : Answer) → next_card a s s.round c ≡ (if_granted a (granted_after b s c) s).round
  card_follows (Sell card seat company tenths) a = same_round a _ (all_same_round s (crossings_of b s (Sell card seat company tenths)))
  card_follows (Buy card seat company source par) a = same_round a _ (all_same_round s (crossings_of b s (Buy card seat company source par)))
  card_follows (End card seat) a = same_round a _ refl
  card_follows (Close card) (Ok x) = refl
  card_follows (Close card) (Err why) = refl
  card_follows (Bill card company amount) a = same_round a _ (all_same_round s (crossings_of b s (Bill card company amount)))
  card_follows (Payout card company mode revenue) a = same_round a _ (all_same_round s (crossings_of b s (Payout card company mode revenue)))
  card_follows (Train card company kind) a = same_round a _ (all_same_round s (crossings_of b s (Train card company kind)))
  card_follows (Done card company) a = same_round a _ refl
  card_follows (Reopen card) (Ok x) = refl
  card_follows (Reopen card) (Err why) = refl

  pub card_of_round : (place : ℕ) (stock : Bool) (o : Option Call) → (asked b s stock s.round place o).1 ≡ (asked b s stock s.round place o).0.round
  card_of_round place stock None = refl
  card_of_round place stock (Some c) = cond_both (belongs stock c) _ _ (λ (q : Played). q.1 ≡ q.0.round) (λ _. card_follows c (answer b s c)) (λ _. refl)

  -- the record of a call asks for this call again
  call_again : (c : Call) → card_of c ≡ s.round → call_of s.round (entry_of c) ≡ Some c
  call_again (Sell card seat company tenths) e = ap (λ n. Some (Sell n seat company tenths)) (sym e)
  call_again (Buy card seat company source par) e = ap (λ n. Some (Buy n seat company source par)) (sym e)
  call_again (End card seat) e = ap (λ n. Some (End n seat)) (sym e)
  call_again (Close card) e = ap (λ n. Some (Close n)) (sym e)
  call_again (Bill card company amount) e = ap (λ n. Some (Bill n company amount)) (sym e)
  call_again (Payout card company mode revenue) e = ap (λ n. Some (Payout n company mode revenue)) (sym e)
  call_again (Train card company kind) e = ap (λ n. Some (Train n company kind)) (sym e)
  call_again (Done card company) e = ap (λ n. Some (Done n company)) (sym e)
  call_again (Reopen card) e = ap (λ n. Some (Reopen n)) (sym e)

  pub granted_played : (c : Call) (place : ℕ) → answer b s c ≡ Ok tt → record_played b s s.round place (entry_of c) ≡ (after b s c, (after b s c).round, None)
  granted_played c place e =
      let own = own_card c e in
      ap (asked b s (odd s.round) s.round place) (call_again c own.0)
      ∙ ap (λ (t : Bool). cond t (call_played b s s.round place c) (not_made s s.round place OtherRound)) own.1
      ∙ triple refl (card_follows c (answer b s c)) (ap (λ (a : Answer). fault_of (at_place place (in_call (name_of c) a))) e)
