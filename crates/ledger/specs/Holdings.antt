-- Who holds what, in a player's words.
use Rattle.std.specs.Prelude.{ℕ, zero, suc, ◌+◌, ◌-◌, ◌≤◌, Bool, false, cond, not, ◌&&◌, ◌||◌, get_or, replicate, ℤ, pos, Some, None, Option, ◌==◌, nat_le, nat_lt, slice_index, slice_index_or, refl}
use Rattle.std.proofs.Common.{lit≤}
use Rattle.kinds.specs.Papers.{bit, tenths, certificate_count, no_papers}
use Rattle.kinds.specs.declared.cash.Cash.{Cash}
use Rattle.kinds.specs.declared.cash_floor.CashFloor.TheVariants.{Zero}
use Rattle.kinds.specs.declared.papers.Papers.{Papers}
use Rattle.kinds.specs.declared.trains.Trains.{Trains}
use Rattle.rulebook.specs.Book.{Book}
use Rattle.ledger.specs.declared.books.Books.{Books}
use Rattle.ledger.specs.declared.company.Company.{Company}

-- places of the rows
abbrev pub bank : ℕ
bank = 0

abbrev pub treasury : Books → ℕ → ℕ
treasury s company = s.players + company

abbrev pub offering : ℕ
offering = 0

abbrev pub pool : ℕ
pool = 1

abbrev pub seat_papers : ℕ → ℕ
seat_papers seat = seat + 1

abbrev pub stack : ℕ
stack = 0

-- what stands where nothing is
pub none_small : (n k : ℕ) → slice_index (replicate n 0) k ≤ 255
none_small zero k = lit≤ tt
none_small (suc n) zero = lit≤ tt
none_small (suc n) (suc k) = none_small n k

abbrev pub no_trains : Trains
no_trains = record { counts = replicate 8 0; eight = refl; small = none_small 8 }

abbrev pub no_cash : Cash
no_cash = record { marks = pos 0; floor = Zero; low = record { le = tt }; high = record { le = tt } }

abbrev pub no_company : Company
no_company = record { papers = replicate 8 no_papers; space = 0; par = 0; floated = false; sold = replicate 6 0; served = 0 }

abbrev pub marks_at : Books → ℕ → ℤ
marks_at s place = (get_or s.cash place no_cash).marks

abbrev pub company_of : Books → ℕ → Company
company_of s company = slice_index_or s.companies (company - 1) no_company

abbrev pub papers_at : Books → ℕ → ℕ → Papers
papers_at s company place = slice_index_or (company_of s company).papers place no_papers

abbrev pub tenths_at : Books → ℕ → ℕ → ℕ
tenths_at s company place = tenths (papers_at s company place)

abbrev pub seat_tenths : Books → ℕ → ℕ → ℕ
seat_tenths s company seat = tenths_at s company (seat_papers seat)

abbrev pub holds_director : Books → ℕ → ℕ → Bool
holds_director s company place = bit 0 (papers_at s company place).certificates == 1

-- a company is opened when the director's certificate has left the offering
abbrev pub opened : Books → ℕ → Bool
opened s company = not (holds_director s company offering)

-- the first seat, of so many from one on, that holds the director's certificate
abbrev pub director_from : Books → ℕ → ℕ → ℕ → Option ℕ
director_from s company seat zero = None
director_from s company seat (suc n) = cond (holds_director s company (seat_papers seat)) (Some seat) (director_from s company (suc seat) n)

abbrev pub director : Books → ℕ → Option ℕ
director s company = director_from s company 1 s.players

abbrev pub gone : Books → ℕ → ℕ
gone s company = 10 - tenths_at s company offering

-- the certificates of a seat over the first n companies
abbrev pub certificates_held : Books → ℕ → ℕ → ℕ
certificates_held s seat zero = 0
certificates_held s seat (suc n) = certificates_held s seat n + certificate_count (papers_at s (suc n) (seat_papers seat))

abbrev pub price_of : Book → Books → ℕ → ℕ
price_of b s company = b.price (company_of s company).space

-- counting upward and round: after the last seat comes seat 1
abbrev pub next_seat : Books → ℕ → ℕ
next_seat s seat = cond (nat_lt seat s.players) (seat + 1) 1

abbrev pub seat_after : Books → ℕ → ℕ → ℕ
seat_after s seat zero = seat
seat_after s seat (suc n) = next_seat s (seat_after s seat n)

-- of so many other seats after one, the one with the most tenths; ties go to the nearest
abbrev pub leader : Books → ℕ → ℕ → ℕ → ℕ
leader s company seat zero = seat_after s seat 1
leader s company seat (suc n) =
    let best = leader s company seat n in
    let next = seat_after s seat (suc (suc n)) in
    cond (nat_lt (seat_tenths s company best) (seat_tenths s company next)) next best

abbrev pub largest_other : Books → ℕ → ℕ → ℕ
largest_other s company seat = leader s company seat (s.players - 2)

abbrev pub is_seat : Books → ℕ → Bool
is_seat s seat = nat_le 1 seat && nat_le seat s.players

abbrev pub is_company : Book → ℕ → Bool
is_company b company = nat_le 1 company && nat_le company b.companies

abbrev pub is_director : Books → ℕ → ℕ → Bool
is_director s company seat = holds_director s company (seat_papers seat)

-- the trains of a hand, by kind; the lowest kind in the stack, of so many from one on
abbrev pub trains_held : Books → ℕ → ℕ → ℕ
trains_held s place kind = slice_index (get_or s.trains place no_trains).counts kind

abbrev pub lowest_kind_from : Books → ℕ → ℕ → Option ℕ
lowest_kind_from s kind zero = None
lowest_kind_from s kind (suc n) = cond (nat_lt 0 (trains_held s stack kind)) (Some kind) (lowest_kind_from s (suc kind) n)

abbrev pub lowest_kind : Books → Option ℕ
lowest_kind s = lowest_kind_from s 0 8

abbrev pub has_train_from : Books → ℕ → ℕ → ℕ → Bool
has_train_from s place kind zero = false
has_train_from s place kind (suc n) = nat_lt 0 (trains_held s place kind) || has_train_from s place (suc kind) n

abbrev pub has_train : Books → ℕ → Bool
has_train s company = has_train_from s company 0 8

-- a floated company that has not had its turn in this round
abbrev pub waiting : Books → ℕ → Bool
waiting s company = (company_of s company).floated && not ((company_of s company).served == s.round)

-- of the first n companies, the waiting one with the highest price; ties go to the lowest number
abbrev pub better : Book → Books → Option ℕ → ℕ → Option ℕ
better b s None company = Some company
better b s (Some best) company = cond (nat_lt (price_of b s best) (price_of b s company)) (Some company) (Some best)

abbrev pub next_of : Book → Books → ℕ → Option ℕ
next_of b s zero = None
next_of b s (suc n) = cond (waiting s (suc n)) (better b s (next_of b s n) (suc n)) (next_of b s n)

abbrev pub next_company : Book → Books → Option ℕ
next_company b s = next_of b s b.companies
