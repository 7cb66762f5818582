-- The statement of a table's books: a line for the bank, for each seat and for each opened company.
use Rattle.std.specs.Prelude.{ℕ, zero, suc, cond, List, [], ◌++◌, Some, None, Option}
use Rattle.rulebook.specs.Book.{Book}
use Rattle.text.specs.Lines.{bank_line, seat_line, company_line}
use Rattle.ledger.specs.declared.books.Books.{Books}
use Rattle.ledger.specs.Holdings.{bank, treasury, offering, pool, marks_at, tenths_at, opened, director, certificates_held, price_of}

-- a seat holds the director's certificate of every opened company; where none did, the number would be 0
abbrev pub number_or_nought : Option ℕ → ℕ
number_or_nought (Some seat) = seat
number_or_nought None = 0

abbrev pub director_number : Books → ℕ → ℕ
director_number s company = number_or_nought (director s company)

abbrev pub seat_line_of : Book → Books → ℕ → List ℕ
seat_line_of b s seat = seat_line seat (marks_at s seat) (certificates_held s seat b.companies)

-- an unopened company has no line
abbrev pub company_line_of : Book → Books → ℕ → List ℕ
company_line_of b s company =
    cond (opened s company)
    (company_line company (marks_at s (treasury s company)) (price_of b s company) (director_number s company) (tenths_at s company offering) (tenths_at s company pool))
    []

-- the lines of the numbers from 1 to n
abbrev pub lines_to : (ℕ → List ℕ) → ℕ → List ℕ
lines_to line zero = []
lines_to line (suc n) = lines_to line n ++ line (suc n)

abbrev pub statement_of : Book → Books → List ℕ
statement_of b s =
    bank_line (marks_at s bank) ++ (lines_to (seat_line_of b s) s.players ++ lines_to (company_line_of b s) b.companies)
