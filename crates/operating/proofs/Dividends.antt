-- The dividends of a payout, one seat after the other.
use Rattle.std.proofs.Common.{◌≡◌, ℕ, zero, suc, ◌+◌, ◌*◌, ◌≤◌, map, sum, refl, ap, ◌∙◌, add-one, arith}
use Rattle.std.specs.List.{range_with_len}
use Rattle.std.proofs.lemmas.List.Sums.{sum_by-cons}
use Rattle.std.proofs.lemmas.Nat.{mul-le}
use Rattle.ledger.specs.Holdings.{papers_at, seat_papers, seat_tenths}
use Rattle.ledger.specs.Operating.{dividend_sum}
use Rattle.ledger.specs.declared.books.Books.{Books}
use Rattle.holdings.proofs.Steps.{at_most_ten}

module _ (s : Books) (company d : ℕ) where
  abbrev pub due : ℕ → ℕ
  due seat = d * seat_tenths s company seat

  one_more : (seat n : ℕ) → sum (map due (range_with_len seat (suc n))) ≡ due seat + sum (map due (range_with_len (seat + 1) n))
  one_more seat n = sum_by-cons (λ x. x) (due seat) (map due (range_with_len (seat + 1) n))

  pub all_due : (seat n : ℕ) → sum (map due (range_with_len seat n)) ≡ dividend_sum s company d seat n
  all_due seat zero = refl
  all_due seat (suc n) =
      one_more seat n ∙ ap (λ rest. due seat + rest) (all_due (seat + 1) n ∙ ap (λ next. dividend_sum s company d next n) (add-one seat))

  pub few_due : (seat n : ℕ) → d ≤ 65535 → sum (map due (range_with_len seat n)) ≤ 655350 * n
  few_due seat zero low = omega arith
  few_due seat (suc n) low =
      omega (arith, one_more seat n, mul-le d (seat_tenths s company seat) 65535 10 low (at_most_ten (papers_at s company (seat_papers seat))), few_due (seat + 1) n low)
