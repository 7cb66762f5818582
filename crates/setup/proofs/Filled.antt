-- The hands of the opening, and what the opening answers.
use Rattle.std.proofs.Common.{◌≡◌, ℕ, ◌*◌, ◌≤◌, pos, Some, Ok, Option, sym, refl, ap, ◌∙◌, inr, ⊎_elim, arith}
use Rattle.std.proofs.lemmas.Bool.{cases_lt}
use Rattle.kinds.specs.Cash.{cash_new}
use Rattle.kinds.specs.declared.cash.Cash.{Cash}
use Rattle.kinds.specs.declared.cash_floor.CashFloor.{CashFloor}
use Rattle.kinds.specs.declared.cash_floor.CashFloor.TheVariants.{Zero}
use Rattle.kinds.specs.Marks.{same_cash}
use Rattle.rulebook.specs.Book.{Book}
use Rattle.rulebook.specs.Lawful.{Lawful}
use Rattle.ledger.specs.Holdings.{no_cash}
use Rattle.ledger.specs.Opening.{or_empty, cash_of, opened, opened_with, open_answer}
use Rattle.ledger.specs.declared.books.Books.{Books}

-- a hand that was made is the one that the opening names
pub is_cash_of : (floor : CashFloor) (marks : ℕ) (hand : Cash) → Some hand ≡ cash_new floor (pos marks) → hand ≡ cash_of floor marks
is_cash_of floor marks hand e = ap or_empty e

pub is_no_cash : (hand : Cash) → Some hand ≡ cash_new Zero (pos 0) → hand ≡ no_cash
is_no_cash hand e = is_cash_of Zero 0 hand e ∙ same_cash (cash_of Zero 0) no_cash refl refl

-- a number of players that has opening cash is one of 2 to 6, and the bank has enough for all
pub opening_granted : (b : Book) → Lawful b → (players cash : ℕ) (told : Option ℕ) → told ≡ b.opening players → told ≡ Some cash → (players ≤ 6) × (players * cash ≤ b.bank)
opening_granted b law players cash told is e =
    let f = sym is ∙ e in (
      ⊎_elim (λ lt. omega arith) (λ le. let n = law.opening_none players (inr le) in let z : ◌≡◌ {A = ℕ} 0 1 = cc in absurd (omega arith)) (cases_lt players 7),
      law.opening_fits players cash f,
    )

-- what the opening answers
pub opening_told : (b : Book) (players cash : ℕ) (told : Option ℕ) (s : Books) → told ≡ b.opening players → told ≡ Some cash → s ≡ opened b players cash → Ok s ≡ open_answer b players
opening_told b players cash told s is e f =
    ap (λ (t : Books). Ok t) f ∙ sym (ap (λ (o : Option ℕ). opened_with b players o) (sym is ∙ e))
