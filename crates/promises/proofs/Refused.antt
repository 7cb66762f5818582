-- What carry's refusals come from, part by part of an answer.
use Rattle.std.proofs.Common.{◌≡◌, ℕ, ◌≤◌, Bool, true, false, not, eqb, Ok, Err, Result, refl, ap, arith, lit≤}
use Rattle.hands.specs.Refusal.{carry_number}
use Rattle.hands.specs.declared.fault.CarryFault.{CarryFault}
use Rattle.hands.specs.declared.fault.CarryRefusal.{CarryRefusal}
use Rattle.hands.specs.declared.fault.CarryRefusal.TheVariants.{OutsideRow, SameHand, CannotGive, CannotTake}
use Rattle.faults.specs.Numbers.{table_number}
use Rattle.faults.specs.declared.table.TableRefusal.{TableRefusal}
use Rattle.faults.specs.declared.table.TableRefusal.TheVariants.{WrongCard, NoSuchSeat, NotOnTurn, RoundOver, CompanyNotOnTurn, Carry}
use Rattle.ledger.specs.Answers.{Answer, granted, refused_if, and_then, by_carry, stock_card, operating_card, round_over, same_company, on_stock_turn, on_operating_turn}
use Rattle.ledger.specs.Holdings.{is_seat}
use Rattle.ledger.specs.declared.books.Books.{Books}

-- what is said of each fault that carry refuses with
abbrev pub Faults : (CarryFault → Type 0) → Answer → Type 0
Faults P a = (fault : CarryFault) → a ≡ Err (Carry fault) → P fault

carry_numbers : (why : CarryRefusal) → carry_number why ≤ 4
carry_numbers OutsideRow = lit≤ tt
carry_numbers SameHand = lit≤ tt
carry_numbers CannotGive = lit≤ tt
carry_numbers CannotTake = lit≤ tt

module _ (P : CarryFault → Type 0) where
  pub none_granted : Faults P granted
  none_granted fault e = let z : ◌≡◌ {A = ℕ} 0 1 = cc in absurd (omega (arith, z))

  -- a refusal of the table's own has a higher number than any of carry
  pub own_refusal : (why : TableRefusal) → 5 ≤ table_number why → Faults P (Err why)
  own_refusal why own fault e =
      let same : why ≡ Carry fault = cc in
      let number = ap table_number same in
      let most = carry_numbers fault.refusal in
      absurd (omega (arith, own, number, most))

  pub either_refused : (a n : Answer) → Faults P a → (a ≡ Ok tt → Faults P n) → Faults P (and_then a n)
  either_refused (Ok u) n p q = q refl
  either_refused (Err why) n p q = p

  pub test_refused : (t : Bool) (why : TableRefusal) (n : Answer) → 5 ≤ table_number why → (t ≡ false → Faults P n) → Faults P (refused_if t why n)
  test_refused true why n own q = own_refusal why own
  test_refused false why n own q = q refl

  pub carry_refused : (r : Result (Unit {0}) CarryFault) → ((fault : CarryFault) → r ≡ Err fault → P fault) → Faults P (by_carry r)
  carry_refused (Ok u) p fault e = none_granted fault e
  carry_refused (Err why) p fault e = p fault (cc)

  pub stock_turn_refused : (s : Books) (card seat : ℕ) → Faults P (on_stock_turn s card seat)
  stock_turn_refused s card seat =
      test_refused (not (stock_card s card)) WrongCard _ (lit≤ tt) (λ _.
      test_refused (round_over s) RoundOver _ (lit≤ tt) (λ _.
      test_refused (not (is_seat s seat)) NoSuchSeat _ (lit≤ tt) (λ _.
      test_refused (not (eqb seat s.stock.turn)) NotOnTurn granted (lit≤ tt) (λ _. none_granted))))

  pub operating_turn_refused : (s : Books) (card company : ℕ) → Faults P (on_operating_turn s card company)
  operating_turn_refused s card company =
      test_refused (not (operating_card s card)) WrongCard _ (lit≤ tt) (λ _.
      test_refused (not (same_company s.operating.company company)) CompanyNotOnTurn granted (lit≤ tt) (λ _. none_granted))
