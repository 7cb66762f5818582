-- What stands at every moment of every life, over every lawful rule book.
use Rattle.std.specs.Prelude.{◌≡◌, ℕ, ◌<◌, ◌≤◌, true, List, pos, Some, Ok}
use Rattle.hands.specs.Totals.{total}
use Rattle.kinds.specs.Cash.{cash_tallies}
use Rattle.kinds.specs.Papers.{papers_tallies}
use Rattle.kinds.specs.Trains.{trains_tallies}
use Rattle.rulebook.specs.Book.{Book}
use Rattle.rulebook.specs.Lawful.{Lawful, Between}
use Rattle.ledger.specs.Holdings.{company_of, seat_papers, seat_tenths, holds_director, director, certificates_held, opened as has_opened}
use Rattle.ledger.specs.Opening.{opened}
use Rattle.ledger.specs.Stock.{buy_answer, buy_after}
use Rattle.ledger.specs.declared.books.Books.{Books}
use Rattle.ledger.specs.declared.call.Call.{Call}
use Rattle.promises.specs.Lives.{lived, HandsTellNets}

-- all cash adds up to the bank total, each certificate is there once, and each kind of train adds up to the book's count
pub record Conserved (b : Book) (s : Books) : Type 0 where
  pub all_cash : total cash_tallies s.cash 0 ≡ pos b.bank
  pub each_certificate : (company number : ℕ) → Between 1 b.companies company → number < 9 → total papers_tallies (company_of s company).papers number ≡ pos 1
  pub each_train : (kind : ℕ) → total trains_tallies s.trains kind ≡ pos (b.train_count kind)

-- an opened company has one director, who holds at least two tenths and no fewer than any other seat
pub record DirectorOf (s : Books) (company : ℕ) : Type 0 where
  pub seat : ℕ
  pub holds : director s company ≡ Some seat
  pub two_tenths : 2 ≤ seat_tenths s company seat
  pub no_fewer : (other : ℕ) → 1 ≤ other → other ≤ s.players → seat_tenths s company other ≤ seat_tenths s company seat
  pub alone : (other : ℕ) → 1 ≤ other → other ≤ s.players → holds_director s company (seat_papers other) ≡ true → other ≡ seat

abbrev pub Directed : Book → Books → Type 0
Directed b s = (company : ℕ) → Between 1 b.companies company → has_opened s company ≡ true → DirectorOf s company

-- no granted purchase leaves its buyer above a limit
abbrev pub WithinLimits : Book → Books → Type 0
WithinLimits b s =
    (card seat company source space : ℕ) → buy_answer b s card seat company source space ≡ Ok tt
    → (certificates_held (buy_after b s seat company source space) seat b.companies ≤ b.certificate_limit s.players)
    × (seat_tenths (buy_after b s seat company source space) company seat ≤ b.share_limit)

-- Every list of calls is a life, and so is every part of it from the opening on: a moment of a life is such a part. So what is said of
-- any two lives is said of any moment of the one and any moment of the other.
pub record LivesStand (b : Book) (start : Books) (one other : List Call) : Type 0 where
  pub hands_tell_nets : HandsTellNets b start one other
  pub conserved : Conserved b (lived b start one)
  pub directed : Directed b (lived b start one)
  pub within_limits : WithinLimits b (lived b start one)

abbrev pub AllLivesStand : Type 0
AllLivesStand = (b : Book) → Lawful b → (players cash : ℕ) → b.opening players ≡ Some cash → (one other : List Call) → LivesStand b (opened b players cash) one other
