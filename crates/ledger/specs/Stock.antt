-- The calls of the stock round: what each is answered, and the books that it leaves.
use Rattle.std.specs.Prelude.{ℕ, zero, suc, ◌+◌, ◌-◌, ◌*◌, Bool, true, false, cond, not, ◌&&◌, ◌||◌, List, [], ◌∷◌, ◌++◌, pos, ◌+ℤ◌, ◌-ℤ◌, Some, None, Option, ◌==◌, nat_le, nat_lt, slice_index, slice_set}
use Rattle.kinds.specs.Papers.{bit}
use Rattle.rulebook.specs.Book.{Book}
use Rattle.rulebook.specs.Funding.{funded_tenths}
use Rattle.rulebook.specs.declared.funding.Funding.{Funding}
use Rattle.rulebook.specs.declared.funding.Funding.TheVariants.{Full, Sold}
use Rattle.faults.specs.declared.table.TableRefusal.TheVariants.{NoSuchCompany, AlreadyBought, TenthsNotHeld, PoolLimit, DirectorNeeded, BankFloor, SoldThisRound, NoSuchSource, SourceEmpty, NoParSpace, CertificateLimit, ShareLimit, WrongCard, RoundNotOver, LastRound}
use Rattle.ledger.specs.Answers.{Answer, granted, refused_if, and_then, by_carry, stock_card, round_over, on_stock_turn, below_floor}
use Rattle.ledger.specs.Certificates.{lowest_one, lowest_two, lowest_ordinary}
use Rattle.ledger.specs.Crossings.{Crossing, pays, hands, with_company, all_crossed, crossing_outcome}
use Rattle.ledger.specs.Holdings.{bank, treasury, offering, pool, seat_papers, marks_at, company_of, papers_at, tenths_at, seat_tenths, director, certificates_held, price_of, next_seat, largest_other, is_company, is_director, next_company}
use Rattle.ledger.specs.declared.books.Books.{Books}
use Rattle.ledger.specs.declared.books.Stock.{Stock}
use Rattle.ledger.specs.declared.books.Operating.{Operating}
use Rattle.ledger.specs.declared.company.Company.{Company}

abbrev pub with_stock : Books → Stock → Books
with_stock s stock = record { players = s.players; cash = s.cash; trains = s.trains; companies = s.companies; round = s.round; stock = stock; operating = s.operating }

abbrev pub with_round : Books → ℕ → Stock → Operating → Books
with_round s round stock operating = record { players = s.players; cash = s.cash; trains = s.trains; companies = s.companies; round = round; stock = stock; operating = operating }

-- the new director gives his two lowest certificates, the old one the director's
abbrev pub exchange : Books → ℕ → ℕ → ℕ → List Crossing
exchange s company new old =
    hands company (seat_papers new) (seat_papers old) (lowest_two (papers_at s company (seat_papers new)).certificates)
    ∷ (hands company (seat_papers old) (seat_papers new) 1 ∷ [])

-- SELL

abbrev pub keeps : Books → ℕ → ℕ → ℕ → ℕ
keeps s seat company tenths = seat_tenths s company seat - tenths

abbrev pub another_leads : Books → ℕ → ℕ → ℕ → Bool
another_leads s seat company tenths =
    is_director s company seat && nat_lt (keeps s seat company tenths) (seat_tenths s company (largest_other s company seat))

-- a director who would keep under two tenths, with no other seat that has two
abbrev pub director_needed : Books → ℕ → ℕ → ℕ → Bool
director_needed s seat company tenths =
    is_director s company seat && (nat_lt (keeps s seat company tenths) 2 && nat_lt (seat_tenths s company (largest_other s company seat)) 2)

abbrev pub sell_answer : Book → Books → ℕ → ℕ → ℕ → ℕ → Answer
sell_answer b s card seat company tenths =
    and_then (on_stock_turn s card seat)
    (refused_if (not (is_company b company)) NoSuchCompany
    (refused_if s.stock.bought AlreadyBought
    (refused_if (tenths == 0 || nat_lt (seat_tenths s company seat) tenths) TenthsNotHeld
    (refused_if (nat_lt b.pool_limit (tenths_at s company pool + tenths)) PoolLimit
    (refused_if (director_needed s seat company tenths) DirectorNeeded
    (refused_if (below_floor (marks_at s bank -ℤ pos (tenths * price_of b s company))) BankFloor granted))))))

abbrev pub sell_exchange : Books → ℕ → ℕ → ℕ → List Crossing
sell_exchange s seat company tenths = cond (another_leads s seat company tenths) (exchange s company (largest_other s company seat) seat) []

abbrev pub sell_crossings : Book → Books → ℕ → ℕ → ℕ → List Crossing
sell_crossings b s seat company tenths =
    let first = sell_exchange s seat company tenths in
    first
    ++ (pays bank seat (tenths * price_of b s company)
    ∷ (hands company (seat_papers seat) pool (lowest_ordinary tenths (papers_at (all_crossed s first) company (seat_papers seat)).certificates) ∷ []))

-- the token steps, and the seat has sold this company in this round
abbrev pub sold_record : Company → ℕ → ℕ → ℕ → Company
sold_record c space seat round = record { papers = c.papers; space = space; par = c.par; floated = c.floated; sold = slice_set c.sold (seat - 1) round; served = c.served }

abbrev pub having_sold : Stock → ℕ → Stock
having_sold k seat = record { first = k.first; turn = k.turn; passes = k.passes; bought = k.bought; acted = true; last = Some seat }

-- of the company records, a sale changes one
abbrev pub noted_sale : Books → ℕ → ℕ → ℕ → Books
noted_sale s seat company space =
    with_stock (with_company s company (sold_record (company_of s company) space seat s.round)) (having_sold s.stock seat)

abbrev pub sell_after : Book → Books → ℕ → ℕ → ℕ → Books
sell_after b s seat company tenths =
    noted_sale (all_crossed s (sell_crossings b s seat company tenths)) seat company (b.after_sale (company_of s company).space tenths)

-- BUY

-- the offering is source 0, the pool source 1
abbrev pub source_set : Books → ℕ → ℕ → ℕ
source_set s company source = (papers_at s company source).certificates

abbrev pub buys_director : Books → ℕ → ℕ → Bool
buys_director s company source = bit 0 (source_set s company source) == 1

abbrev pub bought_size : Books → ℕ → ℕ → ℕ
bought_size s company source = cond (buys_director s company source) 2 1

abbrev pub sold_this_round : Books → ℕ → ℕ → Bool
sold_this_round s seat company = slice_index (company_of s company).sold (seat - 1) == s.round

-- the price of the named space where the company is opened, else its par
abbrev pub par_for : Book → Books → ℕ → ℕ → ℕ → ℕ
par_for b s company source space = cond (buys_director s company source) (b.price space) (company_of s company).par

abbrev pub cost : Book → Books → ℕ → ℕ → ℕ → ℕ
cost b s company zero space = par_for b s company zero space * bought_size s company zero
cost b s company (suc source) space = price_of b s company

abbrev pub is_sold_funding : Funding → Bool
is_sold_funding Full = false
is_sold_funding Sold = true

abbrev pub payee : Book → Books → ℕ → ℕ → ℕ
payee b s company zero = cond ((company_of s company).floated && is_sold_funding b.funding) (treasury s company) bank
payee b s company (suc source) = bank

-- tenths gone from the offering once the certificate has left
abbrev pub gone_then : Books → ℕ → ℕ → ℕ
gone_then s company zero = 10 - tenths_at s company offering + bought_size s company zero
gone_then s company (suc source) = 10 - tenths_at s company offering

abbrev pub floats : Book → Books → ℕ → ℕ → Bool
floats b s company source = not (company_of s company).floated && nat_le (b.float company) (gone_then s company source)

abbrev pub float_money : Book → Books → ℕ → ℕ → ℕ → ℕ
float_money b s company source space = funded_tenths b.funding (gone_then s company source) * par_for b s company source space

abbrev pub float_short : Book → Books → ℕ → ℕ → ℕ → Bool
float_short b s company source space =
    floats b s company source && below_floor (marks_at s bank +ℤ pos (cost b s company source space) -ℤ pos (float_money b s company source space))

-- what the rules of the stock round say of a purchase, before any money is asked for
abbrev pub may_buy : Book → Books → ℕ → ℕ → ℕ → ℕ → Answer
may_buy b s seat company source space =
    refused_if (not (is_company b company)) NoSuchCompany
    (refused_if s.stock.bought AlreadyBought
    (refused_if (sold_this_round s seat company) SoldThisRound
    (refused_if (nat_lt 1 source) NoSuchSource
    (refused_if (source_set s company source == 0) SourceEmpty
    (refused_if (buys_director s company source && not (b.par space)) NoParSpace
    (refused_if (nat_lt (b.certificate_limit s.players) (certificates_held s seat b.companies + 1)) CertificateLimit
    (refused_if (nat_lt b.share_limit (seat_tenths s company seat + bought_size s company source)) ShareLimit granted)))))))

abbrev pub buy_answer : Book → Books → ℕ → ℕ → ℕ → ℕ → ℕ → Answer
buy_answer b s card seat company source space =
    and_then (on_stock_turn s card seat)
    (and_then (may_buy b s seat company source space)
    (and_then (by_carry (crossing_outcome s (pays seat (payee b s company source) (cost b s company source space))).0)
    (refused_if (float_short b s company source space) BankFloor granted)))

-- the exchange that a purchase brings: the buyer's tenths then exceed the director's
abbrev pub overtakes : Books → ℕ → ℕ → Option ℕ → List Crossing
overtakes s seat company None = []
overtakes s seat company (Some old) =
    cond (not (old == seat) && nat_lt (seat_tenths s company old) (seat_tenths s company seat)) (exchange s company seat old) []

abbrev pub float_crossing : Book → Books → ℕ → ℕ → ℕ → List Crossing
float_crossing b s company source space =
    cond (floats b s company source) (pays bank (treasury s company) (float_money b s company source space) ∷ []) []

abbrev pub purchase : Book → Books → ℕ → ℕ → ℕ → ℕ → List Crossing
purchase b s seat company source space =
    pays seat (payee b s company source) (cost b s company source space)
    ∷ (hands company source (seat_papers seat) (lowest_one (source_set s company source)) ∷ [])

abbrev pub buy_crossings : Book → Books → ℕ → ℕ → ℕ → ℕ → List Crossing
buy_crossings b s seat company source space =
    let first = purchase b s seat company source space in
    let t = all_crossed s first in
    first ++ (overtakes t seat company (director t company) ++ float_crossing b s company source space)

-- where the token then stands
abbrev pub space_then : Books → ℕ → ℕ → ℕ → ℕ
space_then s company source space = cond (buys_director s company source) space (company_of s company).space

abbrev pub bought_record : Company → ℕ → ℕ → Bool → Company
bought_record c space par floated = record { papers = c.papers; space = space; par = par; floated = floated; sold = c.sold; served = c.served }

abbrev pub having_bought : Stock → ℕ → Stock
having_bought k seat = record { first = k.first; turn = k.turn; passes = k.passes; bought = true; acted = true; last = Some seat }

abbrev pub noted_purchase : Books → ℕ → ℕ → ℕ → ℕ → Bool → Books
noted_purchase s seat company space par floated =
    with_stock (with_company s company (bought_record (company_of s company) space par floated)) (having_bought s.stock seat)

abbrev pub buy_after : Book → Books → ℕ → ℕ → ℕ → ℕ → Books
buy_after b s seat company source space =
    noted_purchase (all_crossed s (buy_crossings b s seat company source space)) seat company
    (space_then s company source space)
    (par_for b s company source space)
    ((company_of s company).floated || floats b s company source)

-- END

abbrev pub end_answer : Books → ℕ → ℕ → Answer
end_answer s card seat = on_stock_turn s card seat

-- a turn without sale or purchase is a pass
abbrev pub turn_ended : Books → ℕ → Stock
turn_ended s seat =
    record {
      first = s.stock.first;
      turn = next_seat s seat;
      passes = cond s.stock.acted 0 (s.stock.passes + 1);
      bought = false;
      acted = false;
      last = s.stock.last;
    }

abbrev pub end_after : Books → ℕ → Books
end_after s seat = with_stock s (turn_ended s seat)

-- CLOSE

abbrev pub close_answer : Books → ℕ → Answer
close_answer s card =
    refused_if (not (stock_card s card)) WrongCard
    (refused_if (not (round_over s)) RoundNotOver
    (refused_if (s.round == 9999) LastRound granted))

-- after the last seat that sold or bought, else this round's first seat
abbrev pub next_first : Books → Option ℕ → ℕ
next_first s None = s.stock.first
next_first s (Some last) = next_seat s last

abbrev pub closed_stock : Books → Stock
closed_stock s =
    record {
      first = next_first s s.stock.last;
      turn = s.stock.turn;
      passes = s.stock.passes;
      bought = s.stock.bought;
      acted = s.stock.acted;
      last = s.stock.last;
    }

abbrev pub close_after : Book → Books → Books
close_after b s =
    let t = with_round s (s.round + 1) (closed_stock s) (record { company = None; paid = false }) in
    with_round t t.round t.stock (record { company = next_company b t; paid = false })
