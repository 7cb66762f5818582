-- Receipts and gifts of each hand, tag by tag: whole numbers without limit.
use Rattle.std.specs.Prelude.{ℕ, ◌+◌, ◌≤◌, cond, ◌&&◌, List, [], ◌∷◌, ℤ, ◌==◌, slice_index_or}
use Rattle.kinds.specs.Cash.{cash_tallies}
use Rattle.kinds.specs.Papers.{papers_tallies}
use Rattle.kinds.specs.Trains.{trains_tallies}
use Rattle.ledger.specs.Crossings.{Crossing, pays, hands, moves}
use Rattle.ledger.specs.Holdings.{no_cash, no_trains, papers_at}
use Rattle.ledger.specs.declared.books.Books.{Books}

-- a hand by its row and its place
pub data HandOf : Type 0 where
  cash_hand : ℕ → HandOf
  paper_hand : ℕ → ℕ → HandOf
  train_hand : ℕ → HandOf

-- the hands of a table: its companies count from 1 to at most 8
abbrev pub OfATable : HandOf → Type 0
OfATable (cash_hand place) = Unit {0}
OfATable (paper_hand company place) = (1 ≤ company) × (company ≤ 8)
OfATable (train_hand place) = Unit {0}

abbrev pub tally_of : Books → HandOf → ℕ → ℤ
tally_of s (cash_hand place) tag = cash_tallies.tally (slice_index_or s.cash place no_cash) tag
tally_of s (paper_hand company place) tag = papers_tallies.tally (papers_at s company place) tag
tally_of s (train_hand place) tag = trains_tallies.tally (slice_index_or s.trains place no_trains) tag

-- what a crossing brings a hand
abbrev pub receipt : Crossing → HandOf → ℕ → ℕ
receipt (pays giver receiver marks) (cash_hand place) tag = cond (place == receiver) (cash_tallies.amount marks tag) 0
receipt (pays giver receiver marks) (paper_hand company place) tag = 0
receipt (pays giver receiver marks) (train_hand place) tag = 0
receipt (hands of giver receiver bits) (cash_hand place) tag = 0
receipt (hands of giver receiver bits) (paper_hand company place) tag = cond (company == of && place == receiver) (papers_tallies.amount (record { bits = bits }) tag) 0
receipt (hands of giver receiver bits) (train_hand place) tag = 0
receipt (moves giver receiver load) (cash_hand place) tag = 0
receipt (moves giver receiver load) (paper_hand company place) tag = 0
receipt (moves giver receiver load) (train_hand place) tag = cond (place == receiver) (trains_tallies.amount load tag) 0

-- what it takes from one
abbrev pub gift : Crossing → HandOf → ℕ → ℕ
gift (pays giver receiver marks) (cash_hand place) tag = cond (place == giver) (cash_tallies.amount marks tag) 0
gift (pays giver receiver marks) (paper_hand company place) tag = 0
gift (pays giver receiver marks) (train_hand place) tag = 0
gift (hands of giver receiver bits) (cash_hand place) tag = 0
gift (hands of giver receiver bits) (paper_hand company place) tag = cond (company == of && place == giver) (papers_tallies.amount (record { bits = bits }) tag) 0
gift (hands of giver receiver bits) (train_hand place) tag = 0
gift (moves giver receiver load) (cash_hand place) tag = 0
gift (moves giver receiver load) (paper_hand company place) tag = 0
gift (moves giver receiver load) (train_hand place) tag = cond (place == giver) (trains_tallies.amount load tag) 0

abbrev pub receipts : List Crossing → HandOf → ℕ → ℕ
receipts [] h tag = 0
receipts (x ∷ xs) h tag = receipt x h tag + receipts xs h tag

abbrev pub gifts : List Crossing → HandOf → ℕ → ℕ
gifts [] h tag = 0
gifts (x ∷ xs) h tag = gift x h tag + gifts xs h tag
