-- A granted payout: each of its crossings is granted.
use Rattle.std.proofs.Common.{◌≡◌, ℕ, ◌≤◌, false, pos, ◌-ℤ◌, Some, arith}
use Rattle.rulebook.specs.Book.{Book}
use Rattle.rulebook.specs.declared.split.Split.{Split}
use Rattle.ledger.specs.Answers.{below_floor}
use Rattle.ledger.specs.Holdings.{bank, treasury, marks_at}
use Rattle.ledger.specs.Operating.{payout_sum, company_share, payout_crossings}
use Rattle.ledger.specs.declared.books.Books.{Books}
use Rattle.promises.proofs.Payments.{dividends_granted}
use Rattle.promises.proofs.Sales.{not_below}
use Rattle.promises.proofs.Sound.{Sound, Carriable}

pub payout_carried : (b : Book) → b.bank ≤ 50000 → (s : Books) → Sound b s → (company : ℕ) → 1 ≤ company → company ≤ 8 → (split : Split) → below_floor (marks_at s bank -ℤ pos (payout_sum s company split)) ≡ false → Carriable s (payout_crossings s company (Some split))
payout_carried b few s ok company low high split enough =
    let p = ok.seats in
    dividends_granted b few s company split.dividend (treasury s company) (company_share s company split) (omega arith) (omega arith) s.players 1 (omega arith) (omega arith) s ok
    (not_below (marks_at s bank -ℤ pos (payout_sum s company split)) enough)
