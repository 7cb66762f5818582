-- The calls of the operating round: what each is answered, and the books that it leaves.
use Rattle.std.specs.Prelude.{ℕ, zero, suc, ◌+◌, ◌*◌, Bool, true, false, cond, not, ◌&&◌, ◌||◌, List, [], ◌∷◌, ◌++◌, ℤ, pos, negsuc, ◌+ℤ◌, ◌-ℤ◌, Some, None, Err, Option, ◌==◌, int_le, int_lt, nat_lt}
use Rattle.rulebook.specs.Book.{Book}
use Rattle.rulebook.specs.Lawful.{payable}
use Rattle.rulebook.specs.declared.split.Split.{Split}
use Rattle.faults.specs.declared.table.TableRefusal.TheVariants.{AlreadyPaidOut, AmountOutOfRange, RevenueOutOfRange, NoSuchMode, NoTrain, BankFloor, NotPaidOut, NotLowestKind, TrainOwed, CompanyOnTurn, WrongCard}
use Rattle.ledger.specs.Answers.{Answer, granted, refused_if, and_then, by_carry, operating_card, on_operating_turn, below_floor}
use Rattle.ledger.specs.Crossings.{Crossing, pays, moves, with_company, all_crossed, crossing_outcome}
use Rattle.ledger.specs.Holdings.{bank, treasury, pool, stack, marks_at, company_of, tenths_at, seat_tenths, director, lowest_kind, has_train, next_company}
use Rattle.ledger.specs.Stock.{with_round}
use Rattle.ledger.specs.declared.books.Books.{Books}
use Rattle.ledger.specs.declared.books.Operating.{Operating}
use Rattle.ledger.specs.declared.company.Company.{Company}

abbrev pub with_operating : Books → Operating → Books
with_operating s operating = with_round s s.round s.stock operating

-- BILL

abbrev pub bill_crossings : Books → ℕ → ℕ → List Crossing
bill_crossings s company amount = pays (treasury s company) bank amount ∷ []

abbrev pub bill_answer : Books → ℕ → ℕ → ℕ → Answer
bill_answer s card company amount =
    and_then (on_operating_turn s card company)
    (refused_if s.operating.paid AlreadyPaidOut
    (refused_if (amount == 0 || nat_lt 1000 amount) AmountOutOfRange
    (by_carry (crossing_outcome s (pays (treasury s company) bank amount)).0)))

abbrev pub bill_after : Books → ℕ → ℕ → Books
bill_after s company amount = all_crossed s (bill_crossings s company amount)

-- PAYOUT

-- what so many seats from one on get, d for each tenth
abbrev pub dividend_sum : Books → ℕ → ℕ → ℕ → ℕ → ℕ
dividend_sum s company d seat zero = 0
dividend_sum s company d seat (suc n) = d * seat_tenths s company seat + dividend_sum s company d (suc seat) n

-- what the company gets: what it keeps, and d for each tenth in the pool
abbrev pub company_share : Books → ℕ → Split → ℕ
company_share s company split = split.kept + split.dividend * tenths_at s company pool

abbrev pub payout_sum : Books → ℕ → Split → ℕ
payout_sum s company split = dividend_sum s company split.dividend 1 s.players + company_share s company split

abbrev pub payout_granted : Books → ℕ → ℕ → Option Split → Answer
payout_granted s company revenue None = Err NoSuchMode
payout_granted s company revenue (Some split) =
    refused_if (nat_lt 0 revenue && not (has_train s company)) NoTrain
    (refused_if (below_floor (marks_at s bank -ℤ pos (payout_sum s company split))) BankFloor granted)

abbrev pub payout_answer : Book → Books → ℕ → ℕ → ℕ → ℕ → Answer
payout_answer b s card company mode revenue =
    and_then (on_operating_turn s card company)
    (refused_if s.operating.paid AlreadyPaidOut
    (refused_if (not (payable revenue)) RevenueOutOfRange (payout_granted s company revenue (b.split mode revenue))))

-- to each of n seats from one on
abbrev pub dividends : Books → ℕ → ℕ → ℕ → ℕ → List Crossing
dividends s company d seat zero = []
dividends s company d seat (suc n) = pays bank seat (d * seat_tenths s company seat) ∷ dividends s company d (suc seat) n

abbrev pub payout_crossings : Books → ℕ → Option Split → List Crossing
payout_crossings s company None = []
payout_crossings s company (Some split) =
    dividends s company split.dividend 1 s.players
    ++ (pays bank (treasury s company) (company_share s company split) ∷ [])

abbrev pub with_space : Company → ℕ → Company
with_space c space = record { papers = c.papers; space = space; par = c.par; floated = c.floated; sold = c.sold; served = c.served }

-- the token steps, and the company has made its payout
abbrev pub noted_payout : Books → ℕ → ℕ → Books
noted_payout s company space =
    with_operating (with_company s company (with_space (company_of s company) space)) (record { company = s.operating.company; paid = true })

abbrev pub payout_after : Book → Books → ℕ → ℕ → ℕ → Books
payout_after b s company mode revenue =
    noted_payout (all_crossed s (payout_crossings s company (b.split mode revenue))) company (b.after_payout (company_of s company).space mode revenue)

-- TRAIN

-- what the company lacks of a price
abbrev pub lacking : ℤ → ℕ
lacking (pos n) = n
lacking (negsuc n) = 0

abbrev pub missing : Books → ℕ → ℕ → ℕ
missing s company price = lacking (pos price -ℤ marks_at s (treasury s company))

-- it has no train and too little cash
abbrev pub needs_help : Books → ℕ → ℕ → Bool
needs_help s company price = not (has_train s company) && int_lt (marks_at s (treasury s company)) (pos price)

abbrev pub help : Books → ℕ → ℕ → Option ℕ → List Crossing
help s company price None = []
help s company price (Some seat) = cond (needs_help s company price) (pays seat (treasury s company) (missing s company price) ∷ []) []

abbrev pub same_kind : Option ℕ → ℕ → Bool
same_kind None kind = false
same_kind (Some lowest) kind = lowest == kind

-- the first carry that moves cash: the director's, if he has to help, else the company's
abbrev pub first_payment : Books → ℕ → ℕ → Option ℕ → Crossing
first_payment s company price None = pays (treasury s company) bank price
first_payment s company price (Some seat) =
    cond (needs_help s company price) (pays seat (treasury s company) (missing s company price)) (pays (treasury s company) bank price)

abbrev pub train_answer : Book → Books → ℕ → ℕ → ℕ → Answer
train_answer b s card company kind =
    and_then (on_operating_turn s card company)
    (refused_if (not s.operating.paid) NotPaidOut
    (refused_if (not (same_kind (lowest_kind s) kind)) NotLowestKind
    (by_carry (crossing_outcome s (first_payment s company (b.train_price kind) (director s company))).0)))

abbrev pub train_crossings : Book → Books → ℕ → ℕ → List Crossing
train_crossings b s company kind =
    help s company (b.train_price kind) (director s company)
    ++ (pays (treasury s company) bank (b.train_price kind) ∷ (moves stack company (record { kind = kind; count = 1 }) ∷ []))

abbrev pub train_after : Book → Books → ℕ → ℕ → Books
train_after b s company kind = all_crossed s (train_crossings b s company kind)

-- DONE

abbrev pub director_marks : Books → Option ℕ → ℤ
director_marks s None = pos 0
director_marks s (Some seat) = marks_at s seat

abbrev pub can_reach : Book → Books → ℕ → Option ℕ → Bool
can_reach b s company None = false
can_reach b s company (Some kind) =
    int_le (pos (b.train_price kind)) (marks_at s (treasury s company) +ℤ director_marks s (director s company))

abbrev pub done_answer : Book → Books → ℕ → ℕ → Answer
done_answer b s card company =
    and_then (on_operating_turn s card company)
    (refused_if (not s.operating.paid) NotPaidOut
    (refused_if (not (has_train s company) && can_reach b s company (lowest_kind s)) TrainOwed granted))

abbrev pub served_record : Company → ℕ → Company
served_record c round = record { papers = c.papers; space = c.space; par = c.par; floated = c.floated; sold = c.sold; served = round }

abbrev pub noted_served : Books → ℕ → Books
noted_served s company = with_company s company (served_record (company_of s company) s.round)

abbrev pub done_after : Book → Books → ℕ → Books
done_after b s company =
    let t = noted_served s company in
    with_operating t (record { company = next_company b t; paid = false })

-- REOPEN

abbrev pub nobody_on_turn : Option ℕ → Bool
nobody_on_turn None = true
nobody_on_turn (Some company) = false

abbrev pub reopen_answer : Books → ℕ → Answer
reopen_answer s card =
    refused_if (not (operating_card s card)) WrongCard
    (refused_if (not (nobody_on_turn s.operating.company)) CompanyOnTurn granted)

abbrev pub reopen_after : Books → Books
reopen_after s =
    with_round s (s.round + 1)
    (record { first = s.stock.first; turn = s.stock.first; passes = 0; bought = false; acted = false; last = None })
    s.operating
