-- Each granted call: its crossings are carried, and its books are sound.
use Rattle.std.proofs.Common.{◌≡◌, ℕ, ◌+◌, ◌*◌, ◌≤◌, not, ◌&&◌, ◌||◌, eqb, ltb, pos, ◌-ℤ◌, Some, None, Ok, Option, subst, ⊎_elim, arith}
use Rattle.std.proofs.lemmas.Bool.{not-false, cases_lt, ltb-false}
use Rattle.faults.specs.declared.table.TableRefusal.TheVariants.{NoSuchCompany, AlreadyBought, TenthsNotHeld, PoolLimit, DirectorNeeded, BankFloor, SoldThisRound, NoSuchSource, AlreadyPaidOut, AmountOutOfRange, RevenueOutOfRange, NoTrain, NotPaidOut, NotLowestKind}
use Rattle.rulebook.specs.Book.{Book}
use Rattle.rulebook.specs.Lawful.{Lawful, Between, payable}
use Rattle.rulebook.specs.declared.split.Split.{Split}
use Rattle.ledger.specs.Answers.{granted, on_stock_turn, on_operating_turn, below_floor, by_carry}
use Rattle.ledger.specs.Crossings.{pays, crossing_outcome}
use Rattle.ledger.specs.Holdings.{bank, pool, marks_at, tenths_at, seat_tenths, price_of, is_company, director, has_train, lowest_kind}
use Rattle.ledger.specs.Lives.{answer, crossings_of}
use Rattle.ledger.specs.Stock.{sell_answer, director_needed, may_buy, buy_answer, payee, cost, float_short, sold_this_round}
use Rattle.ledger.specs.Operating.{bill_answer, payout_answer, payout_granted, payout_sum, payout_crossings, train_answer, same_kind}
use Rattle.ledger.specs.declared.books.Books.{Books}
use Rattle.ledger.specs.declared.call.Call.{Call}
use Rattle.ledger.specs.declared.call.Call.TheVariants.{Sell, Buy, End, Close, Bill, Payout, Train, Done, Reopen}
use Rattle.promises.proofs.Companies.{OneOf}
use Rattle.promises.proofs.Granted.{both_granted, test_passed, carry_granted}
use Rattle.promises.proofs.Payouts.{payout_carried}
use Rattle.promises.proofs.Purchases.{purchase_granted}
use Rattle.promises.proofs.Sales.{sale_granted}
use Rattle.promises.proofs.Seats.{director_holds}
use Rattle.promises.proofs.Sound.{Sound, Carriable}
use Rattle.promises.proofs.TrainSales.{train_granted}
use Rattle.promises.proofs.Turns.{stock_turn, company_there, operating_turn}

pub on_turn_there : (n : ℕ) (o : Option ℕ) (company : ℕ) → OneOf n o → o ≡ Some company → Between 1 n company
on_turn_there n o company p e = subst (OneOf n) e p

pub few_trains : (b : Book) → Lawful b → (kind : ℕ) → b.train_count kind ≤ 30
few_trains b law kind =
    ⊎_elim (λ lt. (law.train_count_range kind lt).1) (λ le. let z = law.train_count_none kind le in omega arith) (cases_lt kind b.train_kinds)

module _ (b : Book) (law : Lawful b) (s : Books) (ok : Sound b s) (turn : OneOf b.companies s.operating.company) where
  few : b.bank ≤ 50000
  few = law.bank_range.1

  eight : (company : ℕ) → Between 1 b.companies company → company ≤ 8
  eight company p = let r = law.companies_range in omega arith

  pub sell_carried : (card seat company tenths : ℕ) → sell_answer b s card seat company tenths ≡ Ok tt → Carriable s (crossings_of b s (Sell card seat company tenths))
  sell_carried card seat company tenths e =
      let p = both_granted (on_stock_turn s card seat) _ e in
      let q = stock_turn s card seat p.0 in
      let a = test_passed (not (is_company b company)) NoSuchCompany _ p.1 in
      let c = company_there b company a.0 in
      let d = test_passed s.stock.bought AlreadyBought _ a.1 in
      let f = test_passed (eqb tenths 0 || ltb (seat_tenths s company seat) tenths) TenthsNotHeld _ d.1 in
      let g = test_passed (ltb b.pool_limit (tenths_at s company pool + tenths)) PoolLimit _ f.1 in
      let h = test_passed (director_needed s seat company tenths) DirectorNeeded _ g.1 in
      let k = test_passed (below_floor (marks_at s bank -ℤ pos (tenths * price_of b s company))) BankFloor granted h.1 in
      sale_granted b few s ok seat company tenths c.0 (eight company c) q.0 q.1 k.0

  pub buy_carried : (card seat company source space : ℕ) → buy_answer b s card seat company source space ≡ Ok tt → Carriable s (crossings_of b s (Buy card seat company source space))
  buy_carried card seat company source space e =
      let p = both_granted (on_stock_turn s card seat) _ e in
      let q = stock_turn s card seat p.0 in
      let m = both_granted (may_buy b s seat company source space) _ p.1 in
      let n = both_granted (by_carry (crossing_outcome s (pays seat (payee b s company source) (cost b s company source space))).0) _ m.1 in
      let a = test_passed (not (is_company b company)) NoSuchCompany _ m.0 in
      let c = company_there b company a.0 in
      let d = test_passed s.stock.bought AlreadyBought _ a.1 in
      let f = test_passed (sold_this_round s seat company) SoldThisRound _ d.1 in
      let g = test_passed (ltb 1 source) NoSuchSource _ f.1 in
      let k = test_passed (float_short b s company source space) BankFloor granted n.1 in
      purchase_granted b few s ok seat company source space c.0 (eight company c) q.0 q.1 (ltb-false 1 source g.0) (carry_granted _ n.0) k.0

  pub bill_carried : (card company amount : ℕ) → bill_answer s card company amount ≡ Ok tt → Carriable s (crossings_of b s (Bill card company amount))
  bill_carried card company amount e =
      let p = both_granted (on_operating_turn s card company) _ e in
      let a = test_passed s.operating.paid AlreadyPaidOut _ p.1 in
      let d = test_passed (eqb amount 0 || ltb 1000 amount) AmountOutOfRange _ a.1 in
      (carry_granted _ d.1, tt)

  payout_by_split : (company revenue : ℕ) → Between 1 b.companies company → (o : Option Split) → payout_granted s company revenue o ≡ Ok tt → Carriable s (payout_crossings s company o)
  payout_by_split company revenue c None e = let z : ◌≡◌ {A = ℕ} 0 1 = cc in absurd (omega arith)
  payout_by_split company revenue c (Some split) e =
      let a = test_passed (ltb 0 revenue && not (has_train s company)) NoTrain _ e in
      let d = test_passed (below_floor (marks_at s bank -ℤ pos (payout_sum s company split))) BankFloor granted a.1 in
      payout_carried b few s ok company c.0 (eight company c) split d.0

  pub payout_made : (card company mode revenue : ℕ) → payout_answer b s card company mode revenue ≡ Ok tt → Carriable s (crossings_of b s (Payout card company mode revenue))
  payout_made card company mode revenue e =
      let p = both_granted (on_operating_turn s card company) _ e in
      let c = on_turn_there b.companies s.operating.company company turn (operating_turn s card company p.0) in
      let a = test_passed s.operating.paid AlreadyPaidOut _ p.1 in
      let d = test_passed (not (payable revenue)) RevenueOutOfRange _ a.1 in
      payout_by_split company revenue c (b.split mode revenue) d.1

  pub train_carried : (card company kind : ℕ) → train_answer b s card company kind ≡ Ok tt → Carriable s (crossings_of b s (Train card company kind))
  train_carried card company kind e =
      let p = both_granted (on_operating_turn s card company) _ e in
      let c = on_turn_there b.companies s.operating.company company turn (operating_turn s card company p.0) in
      let a = test_passed (not s.operating.paid) NotPaidOut _ p.1 in
      let d = test_passed (not (same_kind (lowest_kind s) kind)) NotLowestKind _ a.1 in
      train_granted b few s ok company kind c.0 (eight company c) (few_trains b law) (not-false _ d.0) (director s company) (λ seat found. (director_holds s company seat found).2) (carry_granted _ d.1)

  -- a granted call's crossings can all be carried, in order
  pub call_carried : (c : Call) → answer b s c ≡ Ok tt → Carriable s (crossings_of b s c)
  call_carried (Sell card seat company tenths) e = sell_carried card seat company tenths e
  call_carried (Buy card seat company source par) e = buy_carried card seat company source par e
  call_carried (End card seat) e = tt
  call_carried (Close card) e = tt
  call_carried (Bill card company amount) e = bill_carried card company amount e
  call_carried (Payout card company mode revenue) e = payout_made card company mode revenue e
  call_carried (Train card company kind) e = train_carried card company kind e
  call_carried (Done card company) e = tt
  call_carried (Reopen card) e = tt
