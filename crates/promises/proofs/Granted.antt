-- What a granted answer says of each of its parts.
use Rattle.std.proofs.Common.{◌≡◌, ℕ, Bool, true, false, Ok, Err, Result, refl, arith}
use Rattle.hands.specs.declared.fault.CarryFault.{CarryFault}
use Rattle.faults.specs.declared.table.TableRefusal.{TableRefusal}
use Rattle.ledger.specs.Answers.{Answer, refused_if, and_then, by_carry}

not_granted : {P : Type 0} (why : TableRefusal) → ◌≡◌ {A = Answer} (Err why) (Ok tt) → P
not_granted why e = let z : ◌≡◌ {A = ℕ} 0 1 = cc in absurd (omega arith)

pub both_granted : (a n : Answer) → and_then a n ≡ Ok tt → (a ≡ Ok tt) × (n ≡ Ok tt)
both_granted (Ok u) n e = (refl, e)
both_granted (Err why) n e = not_granted why e

pub test_passed : (t : Bool) (why : TableRefusal) (n : Answer) → refused_if t why n ≡ Ok tt → (t ≡ false) × (n ≡ Ok tt)
test_passed true why n e = not_granted why e
test_passed false why n e = (refl, e)

pub carry_granted : (r : Result (Unit {0}) CarryFault) → by_carry r ≡ Ok tt → r ≡ Ok tt
carry_granted (Ok u) e = refl
carry_granted (Err fault) e = let z : ◌≡◌ {A = ℕ} 0 1 = cc in absurd (omega arith)
