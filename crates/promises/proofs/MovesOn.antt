-- The table never sticks.
use Rattle.std.proofs.Common.{◌≡◌, ℕ, zero, suc, ◌<◌, ◌≤◌, Bool, true, false, cond, not, ◌&&◌, eqb, ◌≢◌, ◌⊎◌, List, get_or, ℤ, pos, negsuc, ◌+ℤ◌, ◌-ℤ◌, ◌≤ℤ◌, Some, None, Ok, Option, refl, ap, ◌∙◌, subst, inl, inr, ⊎_elim, arith}
use lib.Signed.{lt_z}
use Rattle.std.proofs.lemmas.Int.{ints}
use Rattle.std.proofs.lemmas.Bool.{and_from, and_parts, and_cases, not_from_true, not_from_false, eq-eqb, ne_eqb, le-leb, cases_Bool, both_ways, false≢true}
use Rattle.faults.specs.declared.table.TableRefusal.{TableRefusal}
use Rattle.faults.specs.declared.table.TableRefusal.TheVariants.{WrongCard, NoSuchSeat, NotOnTurn, RoundOver, RoundNotOver, LastRound, CompanyNotOnTurn, CompanyOnTurn, AlreadyPaidOut, NotPaidOut, NotLowestKind, TrainOwed, BankFloor}
use Rattle.kinds.specs.Cash.{le_from}
use Rattle.kinds.specs.Floor.{floor_marks}
use Rattle.rulebook.specs.Book.{Book}
use Rattle.rulebook.specs.Lawful.{Lawful, Between}
use Rattle.rulebook.specs.declared.split.Split.{Split}
use Rattle.ledger.specs.Answers.{Answer, granted, refused_if, and_then, by_carry, odd, stock_card, operating_card, round_over, same_company, on_operating_turn, below_floor}
use Rattle.ledger.specs.Crossings.{pays, crossing_outcome}
use Rattle.ledger.specs.Holdings.{bank, treasury, no_cash, marks_at, is_seat, director, lowest_kind, has_train}
use Rattle.ledger.specs.Opening.{opened}
use Rattle.ledger.specs.Operating.{dividend_sum, payout_sum, payout_granted, payout_answer, missing, needs_help, same_kind, first_payment, train_answer, director_marks, can_reach, done_answer, nobody_on_turn, reopen_answer}
use Rattle.ledger.specs.Stock.{end_answer, close_answer}
use Rattle.ledger.specs.declared.books.Books.{Books}
use Rattle.ledger.specs.declared.call.Call.{Call}
use Rattle.promises.specs.Lives.{lived}
use Rattle.promises.specs.NeverSticks.{BuysLowest, MovesOn}
use Rattle.promises.proofs.Companies.{OneOf}
use Rattle.promises.proofs.Opened.{opening_standing}
use Rattle.promises.proofs.Payments.{can_pay}
use Rattle.promises.proofs.Seats.{director_holds}
use Rattle.promises.proofs.Standing.{Standing}
use Rattle.promises.proofs.TrainSales.{lacks}
use Rattle.promises.proofs.TurnSeats.{AllSeated, life_seated, opening_seated}
use Rattle.promises.proofs.Whole.{life_stands}

-- a test that fails hands on to what follows, and so does a part that grants
on : (t : Bool) (why : TableRefusal) (n : Answer) → t ≡ false → refused_if t why n ≡ n
on t why n e = ap (λ x. refused_if x why n) e

then_on : (a n : Answer) → a ≡ Ok tt → and_then a n ≡ n
then_on a n e = ap (λ x. and_then x n) e

-- small arithmetic
above_floor : (z : ℤ) → negsuc 19999 ≤ℤ z → below_floor z ≡ false
above_floor z h = grind (arith, ints)

not_less : (a b : ℤ) → lt_z a b ≡ false → b ≤ℤ a
not_less a b e = grind (arith, ints)

alone : (p : ℕ) (m : ℤ) → pos p ≤ℤ (m +ℤ pos 0) → pos p ≤ℤ m
alone p m h = omega (arith, ints)

the_rest : (p n : ℕ) (m d : ℤ) → pos p ≤ℤ (m +ℤ d) → (m +ℤ pos n) ≡ pos p → pos n ≤ℤ d
the_rest p n m d h e = omega (arith, ints)

less_none : (n : ℕ) (m f : ℤ) → f ≤ℤ m → f ≡ negsuc 19999 → n ≡ 0 → negsuc 19999 ≤ℤ (m -ℤ pos n)
less_none n m f h e z = omega (arith, ints)

no_dividends : (s : Books) (company n seat : ℕ) → dividend_sum s company 0 seat n ≡ 0
no_dividends s company zero seat = refl
no_dividends s company (suc n) seat = let r = no_dividends s company n (suc seat) in omega (arith, r)

module _ (s : Books) where
  own_stock_card : odd s.round ≡ true → stock_card s s.round ≡ true
  own_stock_card e = and_from _ _ (eq-eqb s.round s.round refl) e

  own_operating_card : odd s.round ≡ false → operating_card s s.round ≡ true
  own_operating_card e = and_from _ _ (eq-eqb s.round s.round refl) (not_from_false _ e)

  turn_ends : AllSeated s → odd s.round ≡ true → round_over s ≡ false → end_answer s s.round s.stock.turn ≡ Ok tt
  turn_ends ok stock going =
      let turn = s.stock.turn in
      let p = ok.turn_seat in
      on (not (stock_card s s.round)) WrongCard _ (not_from_true _ (own_stock_card stock))
      ∙ on (round_over s) RoundOver _ going
      ∙ on (not (is_seat s turn)) NoSuchSeat _ (not_from_true _ (and_from _ _ (le-leb 1 turn p.0) (le-leb turn s.players p.1)))
      ∙ on (not (eqb turn turn)) NotOnTurn granted (not_from_true _ (eq-eqb turn turn refl))

  closes : odd s.round ≡ true → round_over s ≡ true → s.round ≢ 9999 → close_answer s s.round ≡ Ok tt
  closes stock over more =
      on (not (stock_card s s.round)) WrongCard _ (not_from_true _ (own_stock_card stock))
      ∙ on (not (round_over s)) RoundNotOver _ (not_from_true _ over)
      ∙ on (eqb s.round 9999) LastRound granted (ne_eqb s.round 9999 more)

  reopens : odd s.round ≡ false → s.operating.company ≡ None → reopen_answer s s.round ≡ Ok tt
  reopens operating nobody =
      on (not (operating_card s s.round)) WrongCard _ (not_from_true _ (own_operating_card operating))
      ∙ on (not (nobody_on_turn s.operating.company)) CompanyOnTurn granted (ap (λ o. not (nobody_on_turn o)) nobody)

  company_on_turn : odd s.round ≡ false → (company : ℕ) → s.operating.company ≡ Some company → on_operating_turn s s.round company ≡ Ok tt
  company_on_turn operating company turn =
      on (not (operating_card s s.round)) WrongCard _ (not_from_true _ (own_operating_card operating))
      ∙ on (not (same_company s.operating.company company)) CompanyNotOnTurn granted
      (not_from_true _ (ap (λ o. same_company o company) turn ∙ eq-eqb company company refl))

module _ (b : Book) (law : Lawful b) (s : Books) (ok : Standing b s) (operating : odd s.round ≡ false) (company : ℕ) (turn : s.operating.company ≡ Some company) where
  few : b.bank ≤ 50000
  few = law.bank_range.1

  abbrev nothing : Split
  nothing = record { dividend = 0; kept = 0 }

  nothing_paid : payout_sum s company nothing ≡ 0
  nothing_paid = let r = no_dividends s company s.players 1 in omega (arith, r)

  -- nothing leaves the bank, which never stands below its floor
  pays_nothing : below_floor (marks_at s bank -ℤ pos (payout_sum s company nothing)) ≡ false
  pays_nothing =
      let h = get_or s.cash 0 no_cash in
      above_floor _ (less_none (payout_sum s company nothing) (marks_at s bank) (floor_marks h.floor) h.low (ap floor_marks ok.sound.cash_row.first) nothing_paid)

  pays_out : s.operating.paid ≡ false → payout_answer b s s.round company 0 0 ≡ Ok tt
  pays_out unpaid =
      then_on (on_operating_turn s s.round company) _ (company_on_turn s operating company turn)
      ∙ on s.operating.paid AlreadyPaidOut _ unpaid
      ∙ ap (payout_granted s company 0) (law.split_keeps 0 refl)
      ∙ on (below_floor (marks_at s bank -ℤ pos (payout_sum s company nothing))) BankFloor granted pays_nothing

  there : Between 1 8 company
  there =
      let p = subst (OneOf b.companies) turn ok.on_turn in
      let r = law.companies_range in
      (p.0, omega (arith, p, r))

  place : (treasury s company < 15) × (s.players < treasury s company)
  place = let p = ok.sound.seats in let c = there in (omega (arith, p, c), omega (arith, c))

  own_payment : (price : ℕ) → pos price ≤ℤ marks_at s (treasury s company) → (crossing_outcome s (pays (treasury s company) bank price)).0 ≡ Ok tt
  own_payment price enough = let p = place in can_pay b few s ok.sound (treasury s company) bank price p.0 (omega arith) (λ e. omega (arith, p, e)) enough

  module _ (trainless : not (has_train s company) ≡ true) (price : ℕ) where
    helps : (seat : ℕ) → seat ≤ s.players → pos price ≤ℤ (marks_at s (treasury s company) +ℤ marks_at s seat) → (t : Bool) → needs_help s company price ≡ t
        → (crossing_outcome s (cond t (pays seat (treasury s company) (missing s company price)) (pays (treasury s company) bank price))).0 ≡ Ok tt
    helps seat inside reach true short =
        let p = place in
        let own = marks_at s (treasury s company) in
        let full = lacks own price (and_parts (not (has_train s company)) (lt_z own (pos price)) short).1 in
        can_pay b few s ok.sound seat (treasury s company) (missing s company price) (omega (arith, p, inside)) p.0 (λ e. omega (arith, p, inside, e))
        (the_rest price (missing s company price) own (marks_at s seat) reach full)
    helps seat inside reach false enough =
        let own = marks_at s (treasury s company) in
        ⊎_elim (λ no. absurd (both_ways (not (has_train s company)) no trainless)) (λ e. own_payment price (not_less own (pos price) e))
        (and_cases (not (has_train s company)) (lt_z own (pos price)) enough)

    first_granted : (o : Option ℕ) → director s company ≡ o → pos price ≤ℤ (marks_at s (treasury s company) +ℤ director_marks s o) → (crossing_outcome s (first_payment s company price o)).0 ≡ Ok tt
    first_granted None e reach = own_payment price (alone price (marks_at s (treasury s company)) reach)
    first_granted (Some seat) e reach = helps seat (director_holds s company seat e).2 reach (needs_help s company price) refl

  module _ (paid : s.operating.paid ≡ true) where
    abbrev owes : Bool
    owes = not (has_train s company) && can_reach b s company (lowest_kind s)

    done_by : done_answer b s s.round company ≡ refused_if owes TrainOwed granted
    done_by =
        then_on (on_operating_turn s s.round company) _ (company_on_turn s operating company turn)
        ∙ on (not s.operating.paid) NotPaidOut _ (not_from_true _ paid)

    buys : not (has_train s company) ≡ true → (kind : ℕ) → lowest_kind s ≡ Some kind → can_reach b s company (Some kind) ≡ true → train_answer b s s.round company kind ≡ Ok tt
    buys trainless kind lowest reach =
        then_on (on_operating_turn s s.round company) _ (company_on_turn s operating company turn)
        ∙ on (not s.operating.paid) NotPaidOut _ (not_from_true _ paid)
        ∙ on (not (same_kind (lowest_kind s) kind)) NotLowestKind _ (not_from_true _ (ap (λ o. same_kind o kind) lowest ∙ eq-eqb kind kind refl))
        ∙ ap by_carry (first_granted trainless (b.train_price kind) (director s company) refl (le_from (pos (b.train_price kind)) (marks_at s (treasury s company) +ℤ director_marks s (director s company)) reach))

    due : owes ≡ true → (o : Option ℕ) → lowest_kind s ≡ o → can_reach b s company o ≡ true → BuysLowest b s company
    due owing None lowest reach = absurd (false≢true reach)
    due owing (Some kind) lowest reach =
        record {
          owed = done_by ∙ ap (λ t. refused_if t TrainOwed granted) owing;
          kind = kind;
          lowest = lowest;
          can_buy = buys (and_parts (not (has_train s company)) (can_reach b s company (lowest_kind s)) owing).0 kind lowest reach;
        }

    buys_or_done : (done_answer b s s.round company ≡ Ok tt) ⊎ BuysLowest b s company
    buys_or_done =
        ⊎_elim (λ owing. inr (due owing (lowest_kind s) refl (and_parts (not (has_train s company)) (can_reach b s company (lowest_kind s)) owing).1))
        (λ no. inl (done_by ∙ on owes TrainOwed granted no))
        (cases_Bool owes)

pub moves_on : (b : Book) → Lawful b → (s : Books) → Standing b s → AllSeated s → MovesOn b s
moves_on b law s ok seated =
    record {
      turn_can_end = turn_ends s seated;
      round_can_close = closes s;
      can_pay_out = λ operating company turn unpaid. pays_out b law s ok operating company turn unpaid;
      can_buy_or_be_done = λ operating company turn paid. buys_or_done b law s ok operating company turn paid;
      round_can_reopen = reopens s;
    }

pub never_sticks : (b : Book) → Lawful b → (players cash : ℕ) → b.opening players ≡ Some cash → (life : List Call) → MovesOn b (lived b (opened b players cash) life)
never_sticks b law players cash e life =
    let start = opened b players cash in
    let ok = opening_standing b law players cash e in
    moves_on b law (lived b start life) (life_stands b law start ok life) (life_seated b start (opening_seated b players cash ok.sound.seats.0) life)
