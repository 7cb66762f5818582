-- Cash crossings of sound books: who may pay, and what a payment leaves.
use Rattle.std.proofs.Common.{◌≡◌, ℕ, zero, suc, ◌+◌, ◌*◌, ◌<◌, ◌≤◌, cond, ◌≢◌, [], ◌∷◌, ◌++◌, get_or, ℤ, pos, negsuc, ◌+ℤ◌, ◌-ℤ◌, ◌≤ℤ◌, Ok, sym, refl, ap, arith}
use Rattle.std.proofs.lemmas.Int.{ints}
use Rattle.std.proofs.lemmas.Bool.{eq-eqb, ne_eqb}
use Rattle.kinds.specs.Floor.{floor_marks}
use Rattle.kinds.specs.Marks.{to_le, floor_range}
use Rattle.rulebook.specs.Book.{Book}
use Rattle.ledger.specs.Crossings.{pays, crossing_outcome, crossed}
use Rattle.ledger.specs.Holdings.{bank, no_cash, marks_at, seat_tenths}
use Rattle.ledger.specs.Operating.{dividends, dividend_sum}
use Rattle.ledger.specs.declared.books.Books.{Books}
use Rattle.promises.specs.Accounts.{cash_hand}
use Rattle.promises.proofs.CashRow.{pay_granted}
use Rattle.promises.proofs.Moved.{moved}
use Rattle.promises.proofs.Sound.{Sound, Carriable, crossing_sound}

module _ (b : Book) (few : b.bank ≤ 50000) where
  module _ (s : Books) (ok : Sound b s) (i j n : ℕ) (hi : i < 15) (hj : j < 15) (ne : i ≢ j) where
    -- nobody's floor is above 0
    pub can_pay : pos n ≤ℤ marks_at s i → (crossing_outcome s (pays i j n)).0 ≡ Ok tt
    can_pay enough =
        let h = get_or s.cash i no_cash in
        let range = floor_range h.floor in
        pay_granted b.bank few s.cash ok.cash_row i j n hi hj ne (to_le (floor_marks h.floor) (h.marks -ℤ pos n) (omega (arith, ints, enough, range)))

    module _ (granted : (crossing_outcome s (pays i j n)).0 ≡ Ok tt) where
      pub giver_then : marks_at (crossed s (pays i j n)) i ≡ marks_at s i -ℤ pos n
      giver_then =
          let m = moved s ok.records_wide (pays i j n) tt granted (cash_hand i) tt 0 in
          let e = ap (λ t. cond t n 0) (ne_eqb i j ne) in
          let f = ap (λ t. cond t n 0) (eq-eqb i i refl) in
          omega (arith, ints, m, e, f)

      pub receiver_then : marks_at (crossed s (pays i j n)) j ≡ marks_at s j +ℤ pos n
      receiver_then =
          let m = moved s ok.records_wide (pays i j n) tt granted (cash_hand j) tt 0 in
          let e = ap (λ t. cond t n 0) (eq-eqb j j refl) in
          let f = ap (λ t. cond t n 0) (ne_eqb j i (λ e. ne (sym e))) in
          omega (arith, ints, m, e, f)

  -- the bank may go down to its own floor
  pub bank_can_pay : (s : Books) → Sound b s → (j n : ℕ) → 0 < j → j < 15 → negsuc 19999 ≤ℤ (marks_at s bank -ℤ pos n) → (crossing_outcome s (pays bank j n)).0 ≡ Ok tt
  bank_can_pay s ok j n low high enough =
      let h = get_or s.cash 0 no_cash in
      let f : floor_marks h.floor ≡ negsuc 19999 = ap floor_marks ok.cash_row.first in
      pay_granted b.bank few s.cash ok.cash_row 0 j n (omega arith) high (λ e. omega arith) (to_le (floor_marks h.floor) (h.marks -ℤ pos n) (omega (arith, ints, enough, f)))

  this_one : (marks : ℤ) (m r rest : ℕ) → negsuc 19999 ≤ℤ (marks -ℤ pos (m + r + rest)) → negsuc 19999 ≤ℤ (marks -ℤ pos m)
  this_one marks m r rest h = omega (arith, ints)

  the_others : (marks left : ℤ) (m r rest : ℕ) → negsuc 19999 ≤ℤ (marks -ℤ pos (m + r + rest)) → left ≡ marks -ℤ pos m → negsuc 19999 ≤ℤ (left -ℤ pos (r + rest))
  the_others marks left m r rest h e = omega (arith, ints)

  -- dividends one seat after the other, by the tenths of the books before the first
  pub dividends_granted : (before : Books) (company d treasury rest : ℕ) → 0 < treasury → treasury < 15 → (n seat : ℕ) → 0 < seat → seat + n ≤ 15 → (s : Books) → Sound b s
      → negsuc 19999 ≤ℤ (marks_at s bank -ℤ pos (dividend_sum before company d seat n + rest)) → Carriable s (dividends before company d seat n ++ (pays bank treasury rest ∷ []))
  dividends_granted before company d treasury rest low high zero seat first last s ok enough =
      (bank_can_pay s ok treasury rest low high (omega (arith, ints, enough)), tt)
  dividends_granted before company d treasury rest low high (suc n) seat first last s ok enough =
      let m = d * seat_tenths before company seat in
      let now : (crossing_outcome s (pays bank seat m)).0 ≡ Ok tt = bank_can_pay s ok seat m first (omega arith) (this_one (marks_at s bank) m (dividend_sum before company d (suc seat) n) rest enough) in
      let left = giver_then s ok 0 seat m (omega arith) (omega arith) (λ e. omega arith) now in (
        now,
        dividends_granted before company d treasury rest low high n (suc seat) (omega arith) (omega arith) (crossed s (pays bank seat m)) (crossing_sound b few s ok (pays bank seat m)) (the_others (marks_at s bank) (marks_at (crossed s (pays bank seat m)) bank) m (dividend_sum before company d (suc seat) n) rest enough left),
      )
