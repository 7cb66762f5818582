-- What a granted call has passed.
use Rattle.std.proofs.Common.{◌≡◌, ℕ, ◌+◌, ◌%◌, ◌<◌, ◌≤◌, Bool, true, false, not, eqb, leb, Some, None, Ok, Err, Option, sym, refl, arith}
use Rattle.std.proofs.lemmas.Bool.{not-true, not-false, and_parts, leb-true, leb-false, eqb-true, eqb-false}
use Rattle.faults.specs.declared.table.TableRefusal.{TableRefusal}
use Rattle.rulebook.specs.Book.{Book}
use Rattle.rulebook.specs.Lawful.{Lawful}
use Rattle.ledger.specs.Answers.{Answer, granted, refused_if, and_then, odd, on_stock_turn, on_operating_turn, same_company}
use Rattle.ledger.specs.Holdings.{is_company}
use Rattle.ledger.specs.Operating.{reopen_answer}
use Rattle.ledger.specs.Stock.{sell_answer, buy_answer, close_answer}
use Rattle.ledger.specs.declared.books.Books.{Books}
use Rattle.table.specs.Bounds.{Bounded}

if_passed : (t : Bool) (why : TableRefusal) (next : Answer) → refused_if t why next ≡ granted → (t ≡ false) × (next ≡ granted)
if_passed true why next e = let z : ◌≡◌ {A = ℕ} 0 1 = cc in absurd (omega arith)
if_passed false why next e = (refl, e)

then_passed : (a next : Answer) → and_then a next ≡ granted → (a ≡ granted) × (next ≡ granted)
then_passed (Ok x) next e = (refl, e)
then_passed (Err why) next e = let z : ◌≡◌ {A = ℕ} 0 1 = cc in absurd (omega arith)

company_in_book : (b : Book) → Lawful b → (company : ℕ) → is_company b company ≡ true → company ≤ 8
company_in_book b law company e =
    let le = leb-true company b.companies (and_parts (leb 1 company) (leb company b.companies) e).1 in
    let most = law.companies_range.1 in
    omega arith

module _ (b : Book) (law : Lawful b) (s : Books) where
  pub sale_range : (card seat company tenths : ℕ) → granted ≡ sell_answer b s card seat company tenths → company ≤ 8
  sale_range card seat company tenths e =
      let p = then_passed _ _ (sym e) in
      company_in_book b law company (not-false _ (if_passed _ _ _ p.1).0)

  pub purchase_range : (card seat company source space : ℕ) → granted ≡ buy_answer b s card seat company source space → company ≤ 8
  purchase_range card seat company source space e =
      let p = then_passed _ _ (then_passed _ _ (sym e)).1 in
      company_in_book b law company (not-false _ (if_passed _ _ _ p.0).0)

-- the company on turn
is_same : (o : Option ℕ) (company : ℕ) → same_company o company ≡ true → o ≡ Some company
is_same None company e = let z : ◌≡◌ {A = ℕ} 0 1 = cc in absurd (omega arith)
is_same (Some n) company e = let f = eqb-true n company e in cc

pub turn_range : (s : Books) → Bounded s → (card company : ℕ) (next : Answer) → granted ≡ and_then (on_operating_turn s card company) next → company ≤ 8
turn_range s ok card company next e =
    let turn = (if_passed _ _ _ (then_passed _ _ (sym e)).0).1 in
    ok.numbered company (is_same s.operating.company company (not-false _ (if_passed _ _ _ turn).0))

-- a seat on turn has not ended the round by passing
pub passes_left : (s : Books) (card seat : ℕ) → on_stock_turn s card seat ≡ granted → s.stock.passes < s.players
passes_left s card seat e =
    let going = (if_passed _ _ _ (if_passed _ _ _ e).1).0 in
    leb-false s.players s.stock.passes going

-- the round's number has room to grow
one_more : (n : ℕ) → n ≤ 9999 → (n ≡ 9999 → ⊥) → n + 1 ≤ 9999
one_more n most last = omega arith

pub close_room : (s : Books) → Bounded s → (card : ℕ) → close_answer s card ≡ granted → (card ≡ s.round) × (odd s.round ≡ true) × (s.round + 1 ≤ 9999)
close_room s ok card e =
    let first = if_passed _ _ _ e in
    let fits = and_parts (eqb card s.round) (odd s.round) (not-false _ first.0) in
    let last : eqb s.round 9999 ≡ false = (if_passed _ _ _ (if_passed _ _ _ first.1).1).0 in
    (eqb-true card s.round fits.0, fits.1, one_more s.round ok.counted (eqb-false s.round 9999 last))

pub reopen_room : (s : Books) → Bounded s → (card : ℕ) → reopen_answer s card ≡ granted → (card ≡ s.round) × (s.round % 2 ≡ 0) × (s.round + 1 ≤ 9999)
reopen_room s ok card e =
    let first = if_passed _ _ _ e in
    let fits = and_parts (eqb card s.round) (not (odd s.round)) (not-false _ first.0) in
    let even = eqb-false (s.round % 2) 1 (not-true (odd s.round) fits.1) in
    let most = ok.counted in
    (eqb-true _ _ fits.0, omega arith, omega arith)
