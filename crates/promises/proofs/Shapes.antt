-- The record and the round that each call leaves, by name.
use Rattle.std.proofs.Common.{ℕ, ◌+◌, false, ◌||◌, None}
use Rattle.rulebook.specs.Book.{Book}
use Rattle.ledger.specs.Crossings.{all_crossed}
use Rattle.ledger.specs.Holdings.{company_of, next_company}
use Rattle.ledger.specs.Stock.{sell_crossings, sold_record, buy_crossings, space_then, par_for, floats, bought_record, closed_stock, with_round}
use Rattle.ledger.specs.Operating.{payout_crossings, with_space, served_record, noted_served}
use Rattle.ledger.specs.declared.books.Books.{Books}
use Rattle.ledger.specs.declared.books.Stock.{Stock}
use Rattle.ledger.specs.declared.books.Operating.{Operating}
use Rattle.ledger.specs.declared.company.Company.{Company}

abbrev pub sold : Book → Books → ℕ → ℕ → ℕ → Company
sold b s seat company tenths =
    let t = all_crossed s (sell_crossings b s seat company tenths) in
    sold_record (company_of t company) (b.after_sale (company_of s company).space tenths) seat t.round

abbrev pub bought : Book → Books → ℕ → ℕ → ℕ → ℕ → Company
bought b s seat company source space =
    let t = all_crossed s (buy_crossings b s seat company source space) in
    bought_record (company_of t company) (space_then s company source space) (par_for b s company source space) ((company_of s company).floated || floats b s company source)

abbrev pub paid_out : Book → Books → ℕ → ℕ → ℕ → Company
paid_out b s company mode revenue =
    let t = all_crossed s (payout_crossings s company (b.split mode revenue)) in
    with_space (company_of t company) (b.after_payout (company_of s company).space mode revenue)

abbrev pub served : Books → ℕ → Company
served s company = served_record (company_of s company) s.round

abbrev pub closing : Book → Books → Operating
closing b s = record { company = next_company b (with_round s (s.round + 1) (closed_stock s) (record { company = None; paid = false })); paid = false }

abbrev pub next_turn : Book → Books → ℕ → Operating
next_turn b s company = record { company = next_company b (noted_served s company); paid = false }

abbrev pub reopened : Books → Stock
reopened s = record { first = s.stock.first; turn = s.stock.first; passes = 0; bought = false; acted = false; last = None }
