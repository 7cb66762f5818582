-- A row of cash with one bank: who can give, can always pay anybody.
use Rattle.std.proofs.Common.{◌≡◌, ℕ, zero, suc, ◌<◌, ◌≤◌, true, false, ◌≢◌, List, [], ◌∷◌, length, get_or, ℤ, pos, negsuc, ◌+ℤ◌, ◌-ℤ◌, ◌≤ℤ◌, ◌<ℤ◌, Some, Ok, Err, Result, sym, refl, ap, ◌∙◌, ⊎_elim, arith}
use Rattle.std.proofs.lemmas.Option.{slice_get-get_or}
use Rattle.std.proofs.lemmas.Int.{ints}
use Rattle.std.proofs.lemmas.Bool.{ne_eqb, cases_Bool}
use Rattle.std.specs.List.{slice_get}
use Rattle.hands.specs.Carry.{carried, refused}
use Rattle.hands.specs.Kind.{Kind}
use Rattle.hands.specs.Totals.{total}
use Rattle.hands.specs.declared.fault.CarryFault.{CarryFault}
use Rattle.hands.specs.declared.fault.CarryRefusal.TheVariants.{CannotGive}
use Rattle.hands.proofs.Floors.{same_length, keeps}
use Rattle.hands.proofs.Kept.{totals_kept}
use Rattle.hands.proofs.Ways.{granted}
use Rattle.kinds.specs.Cash.{cash, cash_tallies, can_give, can_take, le_from}
use Rattle.kinds.specs.Floor.{floor_marks}
use Rattle.kinds.specs.declared.cash.Cash.{Cash}
use Rattle.kinds.specs.declared.cash_floor.CashFloor.TheVariants.{Overdraft}
use Rattle.kinds.specs.Marks.{cash_laws, to_le, floor_range, given_keeps, taken_keeps}
use Rattle.ledger.specs.Holdings.{no_cash}

abbrev pub floor_total : List Cash → ℤ
floor_total [] = pos 0
floor_total (c ∷ cs) = floor_marks c.floor +ℤ floor_total cs

floors_below : (row : List Cash) → floor_total row ≤ℤ total cash_tallies row 0
floors_below [] = omega (arith, ints)
floors_below (c ∷ cs) = let r = floors_below cs in let low = c.low in omega (arith, ints)

-- no hand stands higher above its floor than the whole row
slack : (row : List Cash) (p : ℕ) → ((get_or row p no_cash).marks -ℤ floor_marks (get_or row p no_cash).floor) ≤ℤ (total cash_tallies row 0 -ℤ floor_total row)
slack [] p = omega (arith, ints)
slack (c ∷ cs) zero = let r = floors_below cs in omega (arith, ints)
slack (c ∷ cs) (suc p) = let r = slack cs p in let low = c.low in omega (arith, ints)

pub record BankRow (bank : ℕ) (row : List Cash) : Type 0 where
  pub wide : length row ≡ 15
  pub sum : total cash_tallies row 0 ≡ pos bank
  pub floors : floor_total row ≡ negsuc 19999
  pub first : (get_or row 0 no_cash).floor ≡ Overdraft

-- a carry between two places whose giver cannot give
not_given : {H L : Type 0} (k : Kind H L) (row : List H) (i j : ℕ) (l : L) (a b : H) → slice_get row i ≡ Some a → slice_get row j ≡ Some b → i ≢ j → k.can_give a l ≡ false → carried k row i j l ≡ refused row i j CannotGive
not_given k row i j l a b p q ne g = rw (p, q, ne_eqb i j ne, g)

told : (one other : CarryFault) → ◌≡◌ {A = Result (Unit {0}) CarryFault} (Err one) (Err other) → other.refusal ≡ one.refusal
told one other e = let same : one ≡ other = cc in ap (λ (f : CarryFault). f.refusal) (sym same)

module _ (bank : ℕ) (few : bank ≤ 50000) (row : List Cash) (ok : BankRow bank row) where
  pub pay_granted : (i j n : ℕ) → i < 15 → j < 15 → i ≢ j → can_give (get_or row i no_cash) n ≡ true → (carried cash row i j n).0 ≡ Ok tt
  pay_granted i j n hi hj ne can =
      let a = get_or row i no_cash in
      let b = get_or row j no_cash in
      let wide = ok.wide in
      let sum = ok.sum in
      let floors = ok.floors in
      let left = le_from (floor_marks a.floor) (a.marks -ℤ pos n) can in
      let giver = slack row i in
      let taker = slack row j in
      let low = floor_range a.floor in
      let high = floor_range b.floor in
      let may : can_take b n ≡ true = to_le (b.marks +ℤ pos n) (pos 1000000) (omega (arith, ints, left, giver, taker, low, high, sum, floors)) in
      ap (λ o. o.0) (granted cash row i j n a b (slice_get-get_or row i no_cash (omega arith)) (slice_get-get_or row j no_cash (omega arith)) ne can may)

  -- where it is refused, the giver cannot give
  pub pay_refused : (i j n : ℕ) → i < 15 → j < 15 → i ≢ j → (fault : CarryFault) → (carried cash row i j n).0 ≡ Err fault → fault.refusal ≡ CannotGive
  pay_refused i j n hi hj ne fault e =
      let wide = ok.wide in
      ⊎_elim
      (λ can. let z : Ok tt ≡ Err fault = sym (pay_granted i j n hi hj ne can) ∙ e in let y : ◌≡◌ {A = ℕ} 0 1 = cc in absurd (omega (arith, y)))
      (λ cannot.
      let no = not_given cash row i j n (get_or row i no_cash) (get_or row j no_cash) (slice_get-get_or row i no_cash (omega arith)) (slice_get-get_or row j no_cash (omega arith)) ne cannot in
      told (record { refusal = CannotGive; giver = i; receiver = j }) fault (sym (ap (λ o. o.0) no) ∙ e))
      (cases_Bool (can_give (get_or row i no_cash) n))

  -- no hand holds more than the bank total and the overdraft
  pub far_below : (p : ℕ) → (get_or row p no_cash).marks <ℤ pos 1000000
  far_below p =
      let sum = ok.sum in
      let floors = ok.floors in
      let most = slack row p in
      let high = floor_range (get_or row p no_cash).floor in
      omega (arith, ints, most, high, sum, floors)

  floor_totals : (xs ys : List Cash) → length xs ≡ length ys → ((p : ℕ) → (get_or xs p no_cash).floor ≡ (get_or ys p no_cash).floor) → floor_total xs ≡ floor_total ys
  floor_totals [] [] e same = refl
  floor_totals [] (y ∷ ys) e same = absurd (omega arith)
  floor_totals (x ∷ xs) [] e same = absurd (omega arith)
  floor_totals (x ∷ xs) (y ∷ ys) e same =
      let r = floor_totals xs ys (omega arith) (λ p. same (suc p)) in
      let h = ap floor_marks (same 0) in
      omega (arith, ints)

  -- any carry leaves such a row
  pub pay_keeps : (i j n : ℕ) → BankRow bank (carried cash row i j n).1
  pay_keeps i j n =
      let same = keeps cash row i j n (λ c. c.floor) (λ c. given_keeps c n) (λ c. taken_keeps c n) no_cash in
      let wide = same_length cash row i j n in
      record {
        wide = wide ∙ ok.wide;
        sum = totals_kept cash row i j n cash_tallies cash_laws 0 ∙ ok.sum;
        floors = floor_totals (carried cash row i j n).1 row wide same ∙ ok.floors;
        first = same 0 ∙ ok.first;
      }
