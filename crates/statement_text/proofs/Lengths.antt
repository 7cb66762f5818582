-- How long each line of a statement gets, and that all of them fit a text.
use Rattle.std.proofs.Common.{◌≡◌, ℕ, zero, suc, ◌+◌, ◌*◌, ◌<◌, ◌≤◌, Bool, true, false, cond, List, [], ◌++◌, length, get_or, ℤ, pos, negsuc, ◌≤ℤ◌, Some, decimal, Option, ap, ◌∙◌, ⊎_elim, suc-mul, arith, length-append}
use Rattle.std.proofs.lemmas.Fmt.{length-decimal-le, length_signed_le}
use Rattle.std.proofs.lemmas.Int.{ints}
use Rattle.std.proofs.lemmas.Bool.{cases_lt}
use Rattle.std.specs.Fmt.{signed_decimal}
use Rattle.kinds.specs.declared.cash.Cash.{Cash}
use Rattle.kinds.specs.Marks.{floor_range}
use Rattle.rulebook.specs.Book.{Book}
use Rattle.rulebook.specs.Lawful.{Lawful}
use Rattle.text.specs.Lines.{bank_line, company_line}
use Rattle.text.specs.Text.{added}
use Rattle.text.proofs.Added.{added_fits}
use Rattle.text.proofs.Bounds.{digit_bound, bank_line_length, seat_line_length, company_line_length}
use Rattle.ledger.specs.declared.books.Books.{Books}
use Rattle.ledger.specs.Holdings.{no_cash, bank, treasury, offering, pool, marks_at, company_of, papers_at, seat_papers, tenths_at, holds_director, opened, director_from, certificates_held, price_of}
use Rattle.holdings.proofs.Steps.{at_most_nine, at_most_ten}
use Rattle.statement_text.specs.Statement.{number_or_nought, director_number, seat_line_of, company_line_of, lines_to, statement_of}

-- numbers

two_digits : (n : ℕ) → n < 100 → length (decimal n) ≤ 2
two_digits n h = length-decimal-le 2 n (omega arith) (omega arith) (omega arith)

three_digits : (n : ℕ) → n < 1000 → length (decimal n) ≤ 3
three_digits n h = length-decimal-le 3 n (omega arith) (omega arith) (omega arith)

in_range : (z : ℤ) → negsuc 19999 ≤ℤ z → z ≤ℤ pos 1000000 → length (signed_decimal z) ≤ 8
in_range (pos n) low high = length_signed_le 7 (pos n) (omega (arith, ints)) (omega (arith, ints))
in_range (negsuc n) low high = length_signed_le 7 (negsuc n) (omega (arith, ints)) (omega (arith, ints))

marks_length : (c : Cash) → length (signed_decimal c.marks) ≤ 8
marks_length c = let r = floor_range c.floor in let low = c.low in in_range c.marks (omega (arith, ints)) c.high

cash_length : (s : Books) (place : ℕ) → length (signed_decimal (marks_at s place)) ≤ 8
cash_length s place = marks_length (get_or s.cash place no_cash)

few_certificates : (s : Books) (seat n : ℕ) → certificates_held s seat n ≤ 9 * n
few_certificates s seat zero = omega arith
few_certificates s seat (suc n) =
    let rest = few_certificates s seat n in
    let here = at_most_nine (papers_at s (suc n) (seat_papers seat)) in
    omega (arith, rest, here)

seat_found : (s : Books) (company seat n : ℕ) → number_or_nought (director_from s company seat n) ≤ seat + n
seat_found s company seat zero = omega arith
seat_found s company seat (suc n) = told (holds_director s company (seat_papers seat)) _ (seat_found s company (suc seat) n)
  where
    told : (test : Bool) (later : Option ℕ) → number_or_nought later ≤ suc seat + n → number_or_nought (cond test (Some seat) later) ≤ seat + suc n
    told true later h = omega arith
    told false later h = omega arith

small_price : (b : Book) → Lawful b → (space : ℕ) → b.price space ≤ 500
small_price b law space =
    ⊎_elim (λ on. (law.price_range space on).1) (λ off. let none = law.price_none space off in omega (arith, none)) (cases_lt space b.spaces)

-- lines

lines_length : (line : ℕ → List ℕ) (longest n : ℕ) → ((i : ℕ) → i ≤ n → length (line i) ≤ longest) → length (lines_to line n) ≤ n * longest
lines_length line longest zero each = omega arith
lines_length line longest (suc n) each =
    let rest = lines_length line longest n (λ i h. each i (omega arith)) in
    let here = each (suc n) (omega arith) in
    let both = length-append (lines_to line n) (line (suc n)) in
    let all = suc-mul n longest in
    omega (arith, rest, here, both, all)

module _ (b : Book) (s : Books) (law : Lawful b) (seated : s.players ≤ 6) where
  seat_length : (seat : ℕ) → seat ≤ s.players → length (seat_line_of b s seat) ≤ 19
  seat_length seat h =
      let held = certificates_held s seat b.companies in
      let few = few_certificates s seat b.companies in
      let all = seat_line_length seat (marks_at s seat) held in
      let number = digit_bound seat (omega arith) in
      let cash = cash_length s seat in
      let count = two_digits held (omega (arith, few, law.companies_range.1)) in
      omega (arith, all, number, cash, count)

  written_length : (company : ℕ) → company ≤ b.companies
      → length (company_line company (marks_at s (treasury s company)) (price_of b s company) (director_number s company) (tenths_at s company offering) (tenths_at s company pool)) ≤ 31
  written_length company h =
      let price = price_of b s company in
      let director = director_number s company in
      let left = tenths_at s company offering in
      let pooled = tenths_at s company pool in
      let all = company_line_length company (marks_at s (treasury s company)) price director left pooled in
      let number = digit_bound company (omega (arith, law.companies_range.1)) in
      let cash = cash_length s (treasury s company) in
      let marks = three_digits price (omega (arith, small_price b law (company_of s company).space)) in
      let seat = digit_bound director (omega (arith, seat_found s company 1 s.players)) in
      let offered = two_digits left (omega (arith, at_most_ten (papers_at s company offering))) in
      let in_pool = two_digits pooled (omega (arith, at_most_ten (papers_at s company pool))) in
      omega (arith, all, number, cash, marks, seat, offered, in_pool)

  company_length : (company : ℕ) → company ≤ b.companies → length (company_line_of b s company) ≤ 31
  company_length company h = if_opened (opened s company) _ (written_length company h)
    where
      if_opened : (test : Bool) (line : List ℕ) → length line ≤ 31 → length (cond test line []) ≤ 31
      if_opened true line short = short
      if_opened false line short = omega arith

  statement_length : length (statement_of b s) ≤ 376
  statement_length =
      let top = bank_line (marks_at s bank) in
      let seats = lines_to (seat_line_of b s) s.players in
      let companies = lines_to (company_line_of b s) b.companies in
      let a = bank_line_length (marks_at s bank) in
      let cash = cash_length s bank in
      let c = lines_length (seat_line_of b s) 19 s.players seat_length in
      let d = lines_length (company_line_of b s) 31 b.companies company_length in
      let eight = law.companies_range.1 in
      let e = length-append top (seats ++ companies) in
      let f = length-append seats companies in
      omega (arith, a, cash, c, d, eight, e, f)

-- so a text of the lines holds all of them
pub all_shown : (b from : Book) (s read : Books) (text : List ℕ) → Lawful b → s.players ≤ 6 → from ≡ b → read ≡ s → text ≡ added [] (statement_of from read) → text ≡ statement_of b s
all_shown b from s read text law seated same_book same_books e =
    let short = statement_length b s law seated in
    e
    ∙ ap (λ f. added [] (statement_of f read)) same_book
    ∙ ap (λ r. added [] (statement_of b r)) same_books
    ∙ added_fits [] (statement_of b s) (omega (arith, short))
