-- Lives of tables, what each hand received and gave in them, and when two tables have equal hands.
use Rattle.std.specs.Prelude.{◌≡◌, ℕ, ◌+◌, ◌≤◌, List, [], ◌∷◌, ℤ, pos, ◌-ℤ◌, slice_index_or}
use Rattle.rulebook.specs.Book.{Book}
use Rattle.ledger.specs.Holdings.{no_cash, no_trains, papers_at}
use Rattle.ledger.specs.Lives.{after, crossings}
use Rattle.ledger.specs.declared.books.Books.{Books}
use Rattle.ledger.specs.declared.call.Call.{Call}
use Rattle.promises.specs.Accounts.{HandOf, OfATable, receipts, gifts}

-- the books after a list of calls, the latest first; each builds on the one before, granted or refused
abbrev pub lived : Book → Books → List Call → Books
lived b start [] = start
lived b start (c ∷ earlier) = after b (lived b start earlier) c

abbrev pub life_receipts : Book → Books → List Call → HandOf → ℕ → ℕ
life_receipts b start [] h tag = 0
life_receipts b start (c ∷ earlier) h tag = life_receipts b start earlier h tag + receipts (crossings b (lived b start earlier) c) h tag

abbrev pub life_gifts : Book → Books → List Call → HandOf → ℕ → ℕ
life_gifts b start [] h tag = 0
life_gifts b start (c ∷ earlier) h tag = life_gifts b start earlier h tag + gifts (crossings b (lived b start earlier) c) h tag

-- receipts less gifts
abbrev pub net : Book → Books → List Call → HandOf → ℕ → ℤ
net b start life h tag = pos (life_receipts b start life h tag) -ℤ pos (life_gifts b start life h tag)

pub record EqualHands (s t : Books) : Type 0 where
  pub cash : (place : ℕ) → slice_index_or s.cash place no_cash ≡ slice_index_or t.cash place no_cash
  pub papers : (company place : ℕ) → 1 ≤ company → company ≤ 8 → papers_at s company place ≡ papers_at t company place
  pub trains : (place : ℕ) → slice_index_or s.trains place no_trains ≡ slice_index_or t.trains place no_trains

-- hand by hand and tag by tag
abbrev pub EqualNets : Book → Books → List Call → List Call → Type 0
EqualNets b start one other = (h : HandOf) → OfATable h → (tag : ℕ) → net b start one h tag ≡ net b start other h tag

-- equal hands exactly when receipts less gifts agree
abbrev pub HandsTellNets : Book → Books → List Call → List Call → Type 0
HandsTellNets b start one other =
    (EqualHands (lived b start one) (lived b start other) → EqualNets b start one other)
    × (EqualNets b start one other → EqualHands (lived b start one) (lived b start other))
