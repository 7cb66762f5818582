-- At every moment of every life there is a call that the table grants, until the last stock round is over.
use Rattle.std.specs.Prelude.{◌≡◌, ℕ, true, false, ◌≢◌, ◌⊎◌, List, Some, None, Ok, Err}
use Rattle.faults.specs.declared.table.TableRefusal.TheVariants.{TrainOwed}
use Rattle.rulebook.specs.Book.{Book}
use Rattle.rulebook.specs.Lawful.{Lawful}
use Rattle.ledger.specs.Answers.{odd, round_over}
use Rattle.ledger.specs.Holdings.{lowest_kind}
use Rattle.ledger.specs.Opening.{opened}
use Rattle.ledger.specs.Operating.{payout_answer, train_answer, done_answer, reopen_answer}
use Rattle.ledger.specs.Stock.{end_answer, close_answer}
use Rattle.ledger.specs.declared.books.Books.{Books}
use Rattle.ledger.specs.declared.call.Call.{Call}
use Rattle.promises.specs.Lives.{lived}

-- the company is not done before it has a train, and it can buy the lowest of the stack
pub record BuysLowest (b : Book) (s : Books) (company : ℕ) : Type 0 where
  pub owed : done_answer b s s.round company ≡ Err TrainOwed
  pub kind : ℕ
  pub lowest : lowest_kind s ≡ Some kind
  pub can_buy : train_answer b s s.round company kind ≡ Ok tt

-- odd rounds are stock rounds, even ones operating rounds; each call is made with the card of the round
pub record MovesOn (b : Book) (s : Books) : Type 0 where
  pub turn_can_end : odd s.round ≡ true → round_over s ≡ false → end_answer s s.round s.stock.turn ≡ Ok tt
  pub round_can_close : odd s.round ≡ true → round_over s ≡ true → s.round ≢ 9999 → close_answer s s.round ≡ Ok tt
  -- revenue 0 in mode 0
  pub can_pay_out : odd s.round ≡ false → (company : ℕ) → s.operating.company ≡ Some company → s.operating.paid ≡ false → payout_answer b s s.round company 0 0 ≡ Ok tt
  pub can_buy_or_be_done : odd s.round ≡ false → (company : ℕ) → s.operating.company ≡ Some company → s.operating.paid ≡ true
      → (done_answer b s s.round company ≡ Ok tt) ⊎ BuysLowest b s company
  pub round_can_reopen : odd s.round ≡ false → s.operating.company ≡ None → reopen_answer s s.round ≡ Ok tt

abbrev pub NeverSticks : Type 0
NeverSticks = (b : Book) → Lawful b → (players cash : ℕ) → b.opening players ≡ Some cash → (life : List Call) → MovesOn b (lived b (opened b players cash) life)
