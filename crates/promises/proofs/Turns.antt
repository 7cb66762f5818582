-- What a granted answer says of seat and company.
use Rattle.std.proofs.Common.{◌≡◌, ℕ, ◌≤◌, true, false, not, leb, Some, None, Ok, Option, ap}
use Rattle.std.proofs.lemmas.Bool.{and_parts, not-false, leb-true, eqb-true, false≢true}
use Rattle.faults.specs.declared.table.TableRefusal.TheVariants.{WrongCard, NoSuchSeat, RoundOver, CompanyNotOnTurn}
use Rattle.rulebook.specs.Book.{Book}
use Rattle.rulebook.specs.Lawful.{Between}
use Rattle.ledger.specs.Answers.{on_stock_turn, on_operating_turn, stock_card, operating_card, round_over, same_company, granted}
use Rattle.ledger.specs.Holdings.{is_seat, is_company}
use Rattle.ledger.specs.declared.books.Books.{Books}
use Rattle.promises.proofs.Granted.{test_passed}

pub seat_there : (s : Books) (seat : ℕ) → not (is_seat s seat) ≡ false → (1 ≤ seat) × (seat ≤ s.players)
seat_there s seat e = let p = and_parts (leb 1 seat) (leb seat s.players) (not-false _ e) in (leb-true 1 seat p.0, leb-true seat s.players p.1)

pub company_there : (b : Book) (company : ℕ) → not (is_company b company) ≡ false → Between 1 b.companies company
company_there b company e = let p = and_parts (leb 1 company) (leb company b.companies) (not-false _ e) in (leb-true 1 company p.0, leb-true company b.companies p.1)

pub stock_turn : (s : Books) (card seat : ℕ) → on_stock_turn s card seat ≡ Ok tt → (1 ≤ seat) × (seat ≤ s.players)
stock_turn s card seat e =
    let one = test_passed (not (stock_card s card)) WrongCard _ e in
    let two = test_passed (round_over s) RoundOver _ one.1 in
    let three = test_passed (not (is_seat s seat)) NoSuchSeat _ two.1 in
    seat_there s seat three.0

same_company_is : (o : Option ℕ) (company : ℕ) → same_company o company ≡ true → o ≡ Some company
same_company_is None company e = absurd (false≢true e)
same_company_is (Some c) company e = ap Some (eqb-true c company e)

pub operating_turn : (s : Books) (card company : ℕ) → on_operating_turn s card company ≡ Ok tt → s.operating.company ≡ Some company
operating_turn s card company e =
    let one = test_passed (not (operating_card s card)) WrongCard _ e in
    let two = test_passed (not (same_company s.operating.company company)) CompanyNotOnTurn granted one.1 in
    same_company_is s.operating.company company (not-false _ two.0)
