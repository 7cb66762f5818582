-- Nobody but the bank is ever below 0, so where a company needs help for a train there is a director who pays.
use Rattle.std.proofs.Common.{◌≡◌, ℕ, zero, suc, ◌≤◌, true, not, List, [], ◌∷◌, get_or, ℤ, pos, negsuc, ◌+ℤ◌, ◌-ℤ◌, ◌≤ℤ◌, Some, None, Ok, Option, refl, ap, arith}
use lib.Signed.{lt_z}
use Rattle.std.proofs.lemmas.Int.{ints}
use Rattle.std.proofs.lemmas.Bool.{and_parts}
use Rattle.kinds.specs.Floor.{floor_marks}
use Rattle.kinds.specs.declared.cash.Cash.{Cash}
use Rattle.kinds.specs.Marks.{floor_range}
use Rattle.rulebook.specs.Book.{Book}
use Rattle.rulebook.specs.Lawful.{Lawful}
use Rattle.ledger.specs.Holdings.{treasury, no_cash, marks_at, director, has_train}
use Rattle.ledger.specs.Lives.{answer, after}
use Rattle.ledger.specs.Operating.{help, needs_help}
use Rattle.ledger.specs.declared.books.Books.{Books}
use Rattle.ledger.specs.declared.call.Call.TheVariants.{Train}
use Rattle.promises.proofs.CashRow.{BankRow, floor_total}
use Rattle.promises.proofs.LeftTrains.{company_paid}
use Rattle.promises.proofs.Standing.{Standing, call_standing}

floor_low : (row : List Cash) → floor_total row ≤ℤ pos 0
floor_low [] = omega (arith, ints)
floor_low (c ∷ cs) = let r = floor_low cs in let f = floor_range c.floor in omega (arith, ints)

floor_most : (row : List Cash) (p : ℕ) → floor_total row ≤ℤ floor_marks (get_or row p no_cash).floor
floor_most [] p = omega (arith, ints)
floor_most (c ∷ cs) zero = let r = floor_low cs in omega (arith, ints)
floor_most (c ∷ cs) (suc p) = let r = floor_most cs p in let f = floor_range c.floor in omega (arith, ints)

not_below : (bank : ℕ) (row : List Cash) → BankRow bank row → (p : ℕ) → 1 ≤ p → pos 0 ≤ℤ (get_or row p no_cash).marks
not_below bank [] ok p h = omega (arith, ints)
not_below bank (c ∷ cs) ok zero h = absurd (omega arith)
not_below bank (c ∷ cs) ok (suc p) h =
    let most = floor_most cs p in
    let all = ok.floors in
    let one : floor_marks c.floor ≡ negsuc 19999 = ap floor_marks ok.first in
    let low = (get_or cs p no_cash).low in
    omega (arith, ints, most, all, one, low)

below : (a b : ℤ) → lt_z a b ≡ true → (a +ℤ pos 1) ≤ℤ b
below a b e = grind (arith, ints)

cannot : (c a : ℤ) (price : ℕ) → c ≡ a -ℤ pos price → pos 0 ≤ℤ c → (a +ℤ pos 1) ≤ℤ pos price → ⊥
cannot c a price e h k = omega (arith, ints)

module _ (b : Book) (law : Lawful b) (s : Books) (ok : Standing b s) (card company kind : ℕ) (e : answer b s (Train card company kind) ≡ Ok tt) (needed : needs_help s company (b.train_price kind) ≡ true) where
  helper_of : (o : Option ℕ) → director s company ≡ o → (seat : ℕ) × (director s company ≡ Some seat)
  helper_of (Some seat) f = (seat, f)
  helper_of None f =
      let c = Train card company kind in
      let p = ok.sound.seats in
      let paid = company_paid b law s ok card company kind e (ap (help s company (b.train_price kind)) f) in
      let there = (call_standing b law s ok c).sound.cash_row in
      let some = not_below b.bank (after b s c).cash there (treasury s company) (omega arith) in
      let short = and_parts (not (has_train s company)) (lt_z (marks_at s (treasury s company)) (pos (b.train_price kind))) needed in
      absurd (cannot (marks_at (after b s c) (treasury s company)) (marks_at s (treasury s company)) (b.train_price kind) paid some (below (marks_at s (treasury s company)) (pos (b.train_price kind)) short.1))

  pub train_helper : (seat : ℕ) × (director s company ≡ Some seat)
  train_helper = helper_of (director s company) refl
