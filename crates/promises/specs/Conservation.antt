-- No call makes or loses cash, certificates or trains.
use Rattle.std.specs.Prelude.{ℕ}
use Rattle.hands.specs.Totals.{TotalsKept}
use Rattle.kinds.specs.Cash.{cash_tallies}
use Rattle.kinds.specs.Papers.{papers_tallies}
use Rattle.kinds.specs.Trains.{trains_tallies}
use Rattle.rulebook.specs.Book.{Book}
use Rattle.ledger.specs.Holdings.{company_of}
use Rattle.ledger.specs.Lives.{after}
use Rattle.ledger.specs.declared.books.Books.{Books}
use Rattle.ledger.specs.declared.call.Call.{Call}

-- the same totals of every tag: over the cash row, over each company's paper row, over the train row
pub record SameTotals (s t : Books) : Type 0 where
  pub cash : TotalsKept cash_tallies s.cash t.cash
  pub papers : (company : ℕ) → TotalsKept papers_tallies (company_of s company).papers (company_of t company).papers
  pub trains : TotalsKept trains_tallies s.trains t.trains

-- whatever the book, the books and the call, granted or refused
abbrev pub CallsConserve : Type 0
CallsConserve = (b : Book) (s : Books) (c : Call) → SameTotals s (after b s c)
