-- The books of a table when it is opened.
use Rattle.std.specs.Prelude.{ℕ, zero, suc, ◌-◌, ◌*◌, ◌≤◌, min, false, List, [], ◌∷◌, ◌++◌, replicate, pos, Some, None, Ok, Err, Option, Result, slice_index, refl}
use Rattle.std.proofs.Common.{arith, lit≤}
use Rattle.kinds.specs.Cash.{cash_new}
use Rattle.kinds.specs.Papers.{no_papers, all_papers}
use Rattle.kinds.specs.declared.cash.Cash.{Cash}
use Rattle.kinds.specs.declared.cash_floor.CashFloor.{CashFloor}
use Rattle.kinds.specs.declared.cash_floor.CashFloor.TheVariants.{Zero, Overdraft}
use Rattle.kinds.specs.declared.papers.Papers.{Papers}
use Rattle.kinds.specs.declared.trains.Trains.{Trains}
use Rattle.rulebook.specs.Book.{Book}
use Rattle.faults.specs.declared.table.TableRefusal.{TableRefusal}
use Rattle.faults.specs.declared.table.TableRefusal.TheVariants.{NoOpeningCash}
use Rattle.ledger.specs.Holdings.{no_cash, no_trains}
use Rattle.ledger.specs.declared.books.Books.{Books}
use Rattle.ledger.specs.declared.company.Company.{Company}

-- A hand with so many marks. A hand has a ceiling, so what no hand can hold leaves it empty; no lawful bank has as many.
abbrev pub or_empty : Option Cash → Cash
or_empty None = no_cash
or_empty (Some hand) = hand

abbrev pub cash_of : CashFloor → ℕ → Cash
cash_of floor marks = or_empty (cash_new floor (pos marks))

-- the bank keeps the rest, each seat has the opening cash, and every other place is empty
abbrev pub opening_cash : ℕ → ℕ → ℕ → List Cash
opening_cash total players cash =
    cash_of Overdraft (total - players * cash) ∷ (replicate players (cash_of Zero cash) ++ replicate (14 - players) no_cash)

-- The trains of n kinds from one on. A hand has room for 255 of a kind, so more are cut off; no lawful book has as many.
abbrev pub counts_from : (ℕ → ℕ) → ℕ → ℕ → List ℕ
counts_from count kind zero = []
counts_from count kind (suc n) = min (count kind) 255 ∷ counts_from count (suc kind) n

pub counts_small : (count : ℕ → ℕ) (kind n k : ℕ) → slice_index (counts_from count kind n) k ≤ 255
counts_small count kind zero k = lit≤ tt
counts_small count kind (suc n) zero = omega arith
counts_small count kind (suc n) (suc k) = counts_small count (suc kind) n k

abbrev pub stack_of : (ℕ → ℕ) → Trains
stack_of count = record { counts = counts_from count 0 8; eight = refl; small = counts_small count 0 8 }

-- a company that nothing has happened to, with so much in its offering
abbrev pub untouched : Papers → Company
untouched in_offering =
    record { papers = in_offering ∷ replicate 7 no_papers; space = 0; par = 0; floated = false; sold = replicate 6 0; served = 0 }

-- each company of the book has all nine certificates in its offering; what stands beyond them has none
abbrev pub opening_companies : ℕ → List Company
opening_companies n = replicate n (untouched all_papers) ++ replicate (8 - n) (untouched no_papers)

-- a rule book, a number of players and the opening cash of each
abbrev pub opened : Book → ℕ → ℕ → Books
opened b players cash =
    record {
      players = players;
      cash = opening_cash b.bank players cash;
      trains = stack_of b.train_count ∷ replicate 8 no_trains;
      companies = opening_companies b.companies;
      round = 1;
      stock = record { first = 1; turn = 1; passes = 0; bought = false; acted = false; last = None };
      operating = record { company = None; paid = false };
    }

-- refused where the book has no opening cash for so many
abbrev pub opened_with : Book → ℕ → Option ℕ → Result Books TableRefusal
opened_with b players None = Err NoOpeningCash
opened_with b players (Some cash) = Ok (opened b players cash)

abbrev pub open_answer : Book → ℕ → Result Books TableRefusal
open_answer b players = opened_with b players (b.opening players)
