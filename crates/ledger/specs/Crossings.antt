-- Crossings: which hand gives which load to which hand.
use Rattle.std.specs.Prelude.{ℕ, ◌-◌, List, [], ◌∷◌, Result, slice_set}
use Rattle.hands.specs.Carry.{carried}
use Rattle.hands.specs.declared.fault.CarryFault.{CarryFault}
use Rattle.kinds.specs.Cash.{cash}
use Rattle.kinds.specs.Papers.{papers}
use Rattle.kinds.specs.Trains.{trains}
use Rattle.kinds.specs.declared.cash.Cash.{Cash}
use Rattle.kinds.specs.declared.papers.Papers.{Papers}
use Rattle.kinds.specs.declared.trains.Trains.{Trains}
use Rattle.kinds.specs.declared.train_load.TrainLoad.{TrainLoad}
use Rattle.ledger.specs.Holdings.{company_of}
use Rattle.ledger.specs.declared.books.Books.{Books}
use Rattle.ledger.specs.declared.company.Company.{Company}

-- marks; certificates of a company; trains
pub data Crossing : Type 0 where
  pays : ℕ → ℕ → ℕ → Crossing
  hands : ℕ → ℕ → ℕ → ℕ → Crossing
  moves : ℕ → ℕ → TrainLoad → Crossing

abbrev pub with_cash : Books → List Cash → Books
with_cash s row = record { players = s.players; cash = row; trains = s.trains; companies = s.companies; round = s.round; stock = s.stock; operating = s.operating }

abbrev pub with_trains : Books → List Trains → Books
with_trains s row = record { players = s.players; cash = s.cash; trains = row; companies = s.companies; round = s.round; stock = s.stock; operating = s.operating }

abbrev pub with_companies : Books → List Company → Books
with_companies s rows = record { players = s.players; cash = s.cash; trains = s.trains; companies = rows; round = s.round; stock = s.stock; operating = s.operating }

-- one company's record is changed
abbrev pub with_company : Books → ℕ → Company → Books
with_company s company c = with_companies s (slice_set s.companies (company - 1) c)

abbrev pub with_papers : Company → List Papers → Company
with_papers c row = record { papers = row; space = c.space; par = c.par; floated = c.floated; sold = c.sold; served = c.served }

-- what carry answers, and the books that it leaves
abbrev pub crossing_outcome : Books → Crossing → Result (Unit {0}) CarryFault × Books
crossing_outcome s (pays giver receiver marks) =
    let o = carried cash s.cash giver receiver marks in
    (o.0, with_cash s o.1)
crossing_outcome s (hands company giver receiver bits) =
    let o = carried papers (company_of s company).papers giver receiver (record { bits = bits }) in
    (o.0, with_company s company (with_papers (company_of s company) o.1))
crossing_outcome s (moves giver receiver load) =
    let o = carried trains s.trains giver receiver load in
    (o.0, with_trains s o.1)

abbrev pub crossed : Books → Crossing → Books
crossed s x = (crossing_outcome s x).1

-- one crossing after the other
abbrev pub all_crossed : Books → List Crossing → Books
all_crossed s [] = s
all_crossed s (x ∷ xs) = all_crossed (crossed s x) xs
