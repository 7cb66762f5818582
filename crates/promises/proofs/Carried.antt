-- What carry answers to the calls, over whole lives.
use Rattle.std.proofs.Common.{◌≡◌, ℕ, zero, suc, ◌+◌, ◌*◌, ◌<◌, ◌≤◌, false, not, ◌&&◌, ◌||◌, eqb, ltb, ◌≢◌, List, pos, ◌-ℤ◌, Some, None, Ok, Option, sym, refl, inl, arith, lit≤}
use Rattle.std.proofs.lemmas.Int.{ints}
use Rattle.std.proofs.lemmas.Bool.{ne_eqb, cond_both}
use Rattle.hands.specs.declared.fault.CarryFault.{CarryFault}
use Rattle.hands.specs.declared.fault.CarryRefusal.TheVariants.{CannotGive}
use Rattle.faults.specs.declared.table.TableRefusal.TheVariants.{NoSuchCompany, AlreadyBought, TenthsNotHeld, PoolLimit, DirectorNeeded, BankFloor, SoldThisRound, NoSuchSource, SourceEmpty, NoParSpace, CertificateLimit, ShareLimit, WrongCard, RoundNotOver, LastRound, AlreadyPaidOut, AmountOutOfRange, RevenueOutOfRange, NoSuchMode, NoTrain, NotPaidOut, NotLowestKind, TrainOwed, CompanyOnTurn}
use Rattle.kinds.specs.Papers.{bit}
use Rattle.rulebook.specs.Book.{Book}
use Rattle.rulebook.specs.Lawful.{Lawful, Between, payable}
use Rattle.rulebook.specs.declared.split.Split.{Split}
use Rattle.ledger.specs.Answers.{granted, on_stock_turn, on_operating_turn, below_floor, by_carry, stock_card, operating_card, round_over}
use Rattle.ledger.specs.Crossings.{pays, crossing_outcome}
use Rattle.ledger.specs.Holdings.{bank, treasury, pool, marks_at, tenths_at, seat_tenths, price_of, is_company, director, has_train, lowest_kind, certificates_held, company_of, papers_at, trains_held}
use Rattle.ledger.specs.Lives.{answer}
use Rattle.ledger.specs.Opening.{opened}
use Rattle.ledger.specs.Stock.{sell_answer, director_needed, may_buy, buy_answer, payee, is_sold_funding, cost, float_short, sold_this_round, source_set, buys_director, bought_size, close_answer}
use Rattle.ledger.specs.Operating.{bill_answer, payout_answer, payout_granted, payout_sum, train_answer, first_payment, needs_help, missing, same_kind, done_answer, can_reach, reopen_answer, nobody_on_turn}
use Rattle.ledger.specs.declared.books.Books.{Books}
use Rattle.ledger.specs.declared.call.Call.{Call}
use Rattle.ledger.specs.declared.call.Call.TheVariants.{Sell, Buy, End, Close, Bill, Payout, Train, Done, Reopen}
use Rattle.promises.specs.Carried.{AsksCarry, Carries}
use Rattle.promises.specs.Lives.{lived}
use Rattle.promises.proofs.Calls.{call_carried, on_turn_there, few_trains}
use Rattle.promises.proofs.CashRow.{pay_refused, far_below}
use Rattle.promises.proofs.Directed.{opening_led}
use Rattle.promises.proofs.Granted.{test_passed}
use Rattle.promises.proofs.Led.{Led}
use Rattle.promises.proofs.Opened.{opening_standing}
use Rattle.promises.proofs.Refused.{Faults, none_granted, own_refusal, either_refused, test_refused, carry_refused, stock_turn_refused, operating_turn_refused}
use Rattle.promises.proofs.Seats.{director_holds}
use Rattle.promises.proofs.Standing.{Standing}
use Rattle.promises.proofs.TrainRow.{part}
use Rattle.promises.proofs.Turns.{stock_turn, operating_turn, company_there}
use Rattle.promises.proofs.Whole.{life_stands, life_led}

-- the calls that never ask carry
module _ (P : CarryFault → Type 0) (b : Book) (s : Books) where
  sell_refused : (card seat company tenths : ℕ) → Faults P (sell_answer b s card seat company tenths)
  sell_refused card seat company tenths =
      either_refused P (on_stock_turn s card seat) _ (stock_turn_refused P s card seat) (λ _.
      test_refused P (not (is_company b company)) NoSuchCompany _ (lit≤ tt) (λ _.
      test_refused P s.stock.bought AlreadyBought _ (lit≤ tt) (λ _.
      test_refused P (eqb tenths 0 || ltb (seat_tenths s company seat) tenths) TenthsNotHeld _ (lit≤ tt) (λ _.
      test_refused P (ltb b.pool_limit (tenths_at s company pool + tenths)) PoolLimit _ (lit≤ tt) (λ _.
      test_refused P (director_needed s seat company tenths) DirectorNeeded _ (lit≤ tt) (λ _.
      test_refused P (below_floor (marks_at s bank -ℤ pos (tenths * price_of b s company))) BankFloor granted (lit≤ tt) (λ _. none_granted P)))))))

  close_refused : (card : ℕ) → Faults P (close_answer s card)
  close_refused card =
      test_refused P (not (stock_card s card)) WrongCard _ (lit≤ tt) (λ _.
      test_refused P (not (round_over s)) RoundNotOver _ (lit≤ tt) (λ _.
      test_refused P (eqb s.round 9999) LastRound granted (lit≤ tt) (λ _. none_granted P)))

  split_refused : (company revenue : ℕ) (o : Option Split) → Faults P (payout_granted s company revenue o)
  split_refused company revenue None = own_refusal P NoSuchMode (lit≤ tt)
  split_refused company revenue (Some split) =
      test_refused P (ltb 0 revenue && not (has_train s company)) NoTrain _ (lit≤ tt) (λ _.
      test_refused P (below_floor (marks_at s bank -ℤ pos (payout_sum s company split))) BankFloor granted (lit≤ tt) (λ _. none_granted P))

  payout_refused : (card company mode revenue : ℕ) → Faults P (payout_answer b s card company mode revenue)
  payout_refused card company mode revenue =
      either_refused P (on_operating_turn s card company) _ (operating_turn_refused P s card company) (λ _.
      test_refused P s.operating.paid AlreadyPaidOut _ (lit≤ tt) (λ _.
      test_refused P (not (payable revenue)) RevenueOutOfRange _ (lit≤ tt) (λ _. split_refused company revenue (b.split mode revenue))))

  done_refused : (card company : ℕ) → Faults P (done_answer b s card company)
  done_refused card company =
      either_refused P (on_operating_turn s card company) _ (operating_turn_refused P s card company) (λ _.
      test_refused P (not s.operating.paid) NotPaidOut _ (lit≤ tt) (λ _.
      test_refused P (not (has_train s company) && can_reach b s company (lowest_kind s)) TrainOwed granted (lit≤ tt) (λ _. none_granted P)))

  reopen_refused : (card : ℕ) → Faults P (reopen_answer s card)
  reopen_refused card =
      test_refused P (not (operating_card s card)) WrongCard _ (lit≤ tt) (λ _.
      test_refused P (not (nobody_on_turn s.operating.company)) CompanyOnTurn granted (lit≤ tt) (λ _. none_granted P))

  may_buy_refused : (seat company source space : ℕ) → Faults P (may_buy b s seat company source space)
  may_buy_refused seat company source space =
      test_refused P (not (is_company b company)) NoSuchCompany _ (lit≤ tt) (λ _.
      test_refused P s.stock.bought AlreadyBought _ (lit≤ tt) (λ _.
      test_refused P (sold_this_round s seat company) SoldThisRound _ (lit≤ tt) (λ _.
      test_refused P (ltb 1 source) NoSuchSource _ (lit≤ tt) (λ _.
      test_refused P (eqb (source_set s company source) 0) SourceEmpty _ (lit≤ tt) (λ _.
      test_refused P (buys_director s company source && not (b.par space)) NoParSpace _ (lit≤ tt) (λ _.
      test_refused P (ltb (b.certificate_limit s.players) (certificates_held s seat b.companies + 1)) CertificateLimit _ (lit≤ tt) (λ _.
      test_refused P (ltb b.share_limit (seat_tenths s company seat + bought_size s company source)) ShareLimit granted (lit≤ tt) (λ _. none_granted P))))))))

never_asked : (b : Book) (s : Books) (c : Call) → Faults (λ _. AsksCarry c) (answer b s c)
never_asked b s (Sell card seat company tenths) = sell_refused (λ _. ⊥) b s card seat company tenths
never_asked b s (Buy card seat company source space) = λ fault e. tt
never_asked b s (End card seat) = stock_turn_refused (λ _. ⊥) s card seat
never_asked b s (Close card) = close_refused (λ _. ⊥) b s card
never_asked b s (Bill card company amount) = λ fault e. tt
never_asked b s (Payout card company mode revenue) = payout_refused (λ _. ⊥) b s card company mode revenue
never_asked b s (Train card company kind) = λ fault e. tt
never_asked b s (Done card company) = done_refused (λ _. ⊥) b s card company
never_asked b s (Reopen card) = reopen_refused (λ _. ⊥) b s card

abbrev Lacks : CarryFault → Type 0
Lacks fault = fault.refusal ≡ CannotGive

-- a place of a company, among so many players
far_enough : (players company n : ℕ) → players ≤ 6 → company ≤ n → n ≤ 8 → players + company < 15
far_enough players company n h k m = omega arith

not_a_seat : (players company seat : ℕ) → seat ≤ players → 1 ≤ company → players + company ≢ seat
not_a_seat players company seat h k e = omega arith

module _ (b : Book) (law : Lawful b) (s : Books) (ok : Standing b s) where
  payment_refused : (giver receiver n : ℕ) → giver < 15 → receiver < 15 → giver ≢ receiver → Faults Lacks (by_carry (crossing_outcome s (pays giver receiver n)).0)
  payment_refused giver receiver n hi hj ne =
      carry_refused Lacks (crossing_outcome s (pays giver receiver n)).0 (pay_refused b.bank law.bank_range.1 s.cash ok.sound.cash_row giver receiver n hi hj ne)

  seat_inside : (seat : ℕ) → seat ≤ s.players → seat < 15
  seat_inside seat h = let p = ok.sound.seats.1 in omega arith

  module _ (company : ℕ) (there : Between 1 b.companies company) where
    treasury_inside : treasury s company < 15
    treasury_inside = far_enough s.players company b.companies ok.sound.seats.1 there.1 law.companies_range.1

    treasury_apart : (seat : ℕ) → seat ≤ s.players → treasury s company ≢ seat
    treasury_apart seat h = not_a_seat s.players company seat h there.0

    payee_apart : (seat source : ℕ) → 1 ≤ seat → seat ≤ s.players → (payee b s company source < 15) × (seat ≢ payee b s company source)
    payee_apart seat zero low high =
        cond_both ((company_of s company).floated && is_sold_funding b.funding) (treasury s company) bank (λ to. (to < 15) × (seat ≢ to))
        (λ _. (treasury_inside, λ e. treasury_apart seat high (sym e)))
        (λ _. (omega arith, λ e. omega arith))
    payee_apart seat (suc source) low high = (omega arith, λ e. omega arith)

    company_refused : (n : ℕ) → Faults Lacks (by_carry (crossing_outcome s (pays (treasury s company) bank n)).0)
    company_refused n = payment_refused (treasury s company) bank n treasury_inside (omega arith) (treasury_apart bank (omega arith))

    first_refused : (price : ℕ) (o : Option ℕ) → ((seat : ℕ) → o ≡ Some seat → seat ≤ s.players) → Faults Lacks (by_carry (crossing_outcome s (first_payment s company price o)).0)
    first_refused price None seated = company_refused price
    first_refused price (Some seat) seated =
        let inside = seated seat refl in
        cond_both (needs_help s company price) (pays seat (treasury s company) (missing s company price)) (pays (treasury s company) bank price) (λ x. Faults Lacks (by_carry (crossing_outcome s x).0))
        (λ _. payment_refused seat (treasury s company) (missing s company price) (seat_inside seat inside) treasury_inside (λ e. treasury_apart seat inside (sym e)))
        (λ _. company_refused price)

  on_turn : (card company : ℕ) → on_operating_turn s card company ≡ Ok tt → Between 1 b.companies company
  on_turn card company e = on_turn_there b.companies s.operating.company company ok.on_turn (operating_turn s card company e)

  buy_refused : (card seat company source space : ℕ) → Faults Lacks (buy_answer b s card seat company source space)
  buy_refused card seat company source space =
      either_refused Lacks (on_stock_turn s card seat) _ (stock_turn_refused Lacks s card seat) (λ turn.
      either_refused Lacks (may_buy b s seat company source space) _ (may_buy_refused Lacks b s seat company source space) (λ may.
      let q = stock_turn s card seat turn in
      let there = company_there b company (test_passed (not (is_company b company)) NoSuchCompany _ may).0 in
      let to = payee_apart company there seat source q.0 q.1 in
      either_refused Lacks (by_carry (crossing_outcome s (pays seat (payee b s company source) (cost b s company source space))).0) _
      (payment_refused seat (payee b s company source) (cost b s company source space) (seat_inside seat q.1) to.0 to.1) (λ _.
      test_refused Lacks (float_short b s company source space) BankFloor granted (lit≤ tt) (λ _. none_granted Lacks))))

  bill_refused : (card company amount : ℕ) → Faults Lacks (bill_answer s card company amount)
  bill_refused card company amount =
      either_refused Lacks (on_operating_turn s card company) _ (operating_turn_refused Lacks s card company) (λ turn.
      test_refused Lacks s.operating.paid AlreadyPaidOut _ (lit≤ tt) (λ _.
      test_refused Lacks (eqb amount 0 || ltb 1000 amount) AmountOutOfRange _ (lit≤ tt) (λ _. company_refused company (on_turn card company turn) amount)))

  train_refused : (card company kind : ℕ) → Faults Lacks (train_answer b s card company kind)
  train_refused card company kind =
      either_refused Lacks (on_operating_turn s card company) _ (operating_turn_refused Lacks s card company) (λ turn.
      test_refused Lacks (not s.operating.paid) NotPaidOut _ (lit≤ tt) (λ _.
      test_refused Lacks (not (same_kind (lowest_kind s) kind)) NotLowestKind _ (lit≤ tt) (λ _.
      first_refused company (on_turn card company turn) (b.train_price kind) (director s company) (λ seat found. (director_holds s company seat found).2))))

  call_refused : (c : Call) → Faults Lacks (answer b s c)
  call_refused (Sell card seat company tenths) = sell_refused Lacks b s card seat company tenths
  call_refused (Buy card seat company source space) = buy_refused card seat company source space
  call_refused (End card seat) = stock_turn_refused Lacks s card seat
  call_refused (Close card) = close_refused Lacks b s card
  call_refused (Bill card company amount) = bill_refused card company amount
  call_refused (Payout card company mode revenue) = payout_refused Lacks b s card company mode revenue
  call_refused (Train card company kind) = train_refused card company kind
  call_refused (Done card company) = done_refused Lacks b s card company
  call_refused (Reopen card) = reopen_refused Lacks b s card

  few_held : (place kind : ℕ) → trains_held s place kind < 255
  few_held place kind =
      let most = part s.trains place kind in
      let sum = ok.sound.trains_sum kind in
      let few = few_trains b law kind in
      omega (arith, ints, most, sum, few)

none_there : (x : ℕ) → x ≡ 0 → eqb x 1 ≡ false
none_there x e = ne_eqb x 1 (λ one. omega arith)

carries : (b : Book) → Lawful b → (s : Books) → Standing b s → Led b s → Carries b s
carries b law s ok led =
    record {
      carriable = call_carried b law s ok.sound ok.on_turn;
      asked = never_asked b s;
      cannot_give = call_refused b law s ok;
      none_in_pool = λ company of. none_there (bit 0 (papers_at s company pool).certificates) (led.clean company pool of (inl refl));
      cash_below = far_below b.bank law.bank_range.1 s.cash ok.sound.cash_row;
      trains_below = few_held b law s ok;
    }

pub calls_carry : (b : Book) → Lawful b → (players cash : ℕ) → b.opening players ≡ Some cash → (life : List Call) → Carries b (lived b (opened b players cash) life)
calls_carry b law players cash e life =
    let start = opened b players cash in
    let ok = opening_standing b law players cash e in
    carries b law (lived b start life) (life_stands b law start ok life) (life_led b law start ok (opening_led b players cash) life)
