-- Dividends are paid to one seat after the other.
use Rattle.std.proofs.Common.{◌≡◌, ℕ, zero, suc, ◌+◌, ◌-◌, ◌*◌, List, [], ◌∷◌, ◌++◌, get_or, sym, ap, ◌∙◌, add-one, arith}
use Rattle.kinds.specs.Papers.{tenths, no_papers}
use Rattle.ledger.specs.Crossings.{pays}
use Rattle.ledger.specs.Holdings.{bank, seat_papers, no_company, tenths_at, seat_tenths}
use Rattle.ledger.specs.Operating.{dividends}
use Rattle.ledger.specs.declared.books.Books.{Books}
use Rattle.ledger.specs.declared.company.Company.{Company}

one_seat_more : (s : Books) (company d seat n : ℕ)
    → dividends s company d seat (suc n) ≡ dividends s company d seat n ++ (pays bank (seat + n) (d * seat_tenths s company (seat + n)) ∷ [])
one_seat_more s company d seat zero =
    let here : seat ≡ seat + zero = omega arith in
    ap (λ k. pays bank k (d * seat_tenths s company k) ∷ []) here
one_seat_more s company d seat (suc n) =
    let next : suc seat + n ≡ seat + suc n = omega arith in
    ap (λ rest. pays bank seat (d * seat_tenths s company seat) ∷ rest) (one_seat_more s company d (suc seat) n)
    ∙ ap (λ k. pays bank seat (d * seat_tenths s company seat) ∷ (dividends s company d (suc seat) n ++ (pays bank k (d * seat_tenths s company k) ∷ []))) next

same_tenths : (s t : Books) (company place : ℕ) → t.companies ≡ s.companies → tenths_at t company place ≡ tenths_at s company place
same_tenths s t company place e = ap (λ (rows : List Company). tenths (get_or (get_or rows (company - 1) no_company).papers place no_papers)) e

pub dividend_order : (s t : Books) (company d k marks : ℕ) → t.companies ≡ s.companies → marks ≡ d * tenths_at t company (k + 2)
    → dividends s company d 1 k ++ (pays bank (k + 1) marks ∷ []) ≡ dividends s company d 1 (k + 1)
dividend_order s t company d k marks same is =
    let before = dividends s company d 1 k in
    let place : k + 2 ≡ seat_papers (1 + k) = omega arith in
    let seat : k + 1 ≡ 1 + k = omega arith in
    let due : marks ≡ d * seat_tenths s company (1 + k) = is ∙ ap (λ n. d * n) (same_tenths s t company (k + 2) same ∙ ap (tenths_at s company) place) in
    ap (λ n. before ++ (pays bank (k + 1) n ∷ [])) due
    ∙ ap (λ n. before ++ (pays bank n (d * seat_tenths s company (1 + k)) ∷ [])) seat
    ∙ sym (one_seat_more s company d 1 k)
    ∙ ap (dividends s company d 1) (sym (add-one k))
