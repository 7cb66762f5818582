-- The companies of a granted call's crossings are the table's.
use Rattle.std.proofs.Common.{◌≡◌, ℕ, zero, suc, ◌≤◌, Bool, true, false, cond, not, ◌&&◌, eqb, ltb, List, [], ◌∷◌, ◌++◌, Some, None, Ok, Option, arith}
use Rattle.faults.specs.declared.table.TableRefusal.TheVariants.{NoSuchCompany}
use Rattle.rulebook.specs.Book.{Book}
use Rattle.rulebook.specs.Lawful.{Lawful, Between}
use Rattle.rulebook.specs.declared.split.Split.{Split}
use Rattle.ledger.specs.Answers.{on_stock_turn}
use Rattle.ledger.specs.Crossings.{Crossing, pays, all_crossed}
use Rattle.ledger.specs.Holdings.{bank, treasury, seat_tenths, largest_other, is_company, director}
use Rattle.ledger.specs.Lives.{answer, crossings_of}
use Rattle.ledger.specs.Stock.{exchange, another_leads, sell_exchange, may_buy, purchase, overtakes, floats, float_money}
use Rattle.ledger.specs.Operating.{dividends, payout_crossings, needs_help, missing, help}
use Rattle.ledger.specs.declared.books.Books.{Books}
use Rattle.ledger.specs.declared.call.Call.{Call}
use Rattle.ledger.specs.declared.call.Call.TheVariants.{Sell, Buy, End, Close, Bill, Payout, Train, Done, Reopen}
use Rattle.promises.proofs.Granted.{both_granted, test_passed}
use Rattle.promises.proofs.Moved.{AllWithin}
use Rattle.promises.proofs.Turns.{company_there}

within_append : (xs ys : List Crossing) → AllWithin xs → AllWithin ys → AllWithin (xs ++ ys)
within_append [] ys p q = q
within_append (x ∷ xs) ys p q = (p.0, within_append xs ys p.1 q)

within_either : (t : Bool) (xs ys : List Crossing) → AllWithin xs → AllWithin ys → AllWithin (cond t xs ys)
within_either true xs ys p q = p
within_either false xs ys p q = q

dividends_within : (s : Books) (company d seat n : ℕ) → AllWithin (dividends s company d seat n)
dividends_within s company d seat zero = tt
dividends_within s company d seat (suc n) = (tt, dividends_within s company d (suc seat) n)

payout_within : (s : Books) (company : ℕ) (o : Option Split) → AllWithin (payout_crossings s company o)
payout_within s company None = tt
payout_within s company (Some split) = within_append (dividends s company split.dividend 1 s.players) _ (dividends_within s company split.dividend 1 s.players) (tt, tt)

help_within : (s : Books) (company price : ℕ) (o : Option ℕ) → AllWithin (help s company price o)
help_within s company price None = tt
help_within s company price (Some seat) = within_either (needs_help s company price) (pays seat (treasury s company) (missing s company price) ∷ []) [] (tt, tt) tt

overtakes_within : (s : Books) (seat company : ℕ) (o : Option ℕ) → (1 ≤ company) × (company ≤ 8) → AllWithin (overtakes s seat company o)
overtakes_within s seat company None p = tt
overtakes_within s seat company (Some old) p = within_either (not (eqb old seat) && ltb (seat_tenths s company old) (seat_tenths s company seat)) (exchange s company seat old) [] (p, (p, tt)) tt

module _ (b : Book) (law : Lawful b) (s : Books) where
  in_range : (company : ℕ) → Between 1 b.companies company → (1 ≤ company) × (company ≤ 8)
  in_range company p = let r = law.companies_range in (p.0, omega arith)

  pub call_within : (c : Call) → answer b s c ≡ Ok tt → AllWithin (crossings_of b s c)
  call_within (Sell card seat company tenths) e =
      let p = both_granted (on_stock_turn s card seat) _ e in
      let a = test_passed (not (is_company b company)) NoSuchCompany _ p.1 in
      let c = in_range company (company_there b company a.0) in
      within_append (sell_exchange s seat company tenths) _
      (within_either (another_leads s seat company tenths) (exchange s company (largest_other s company seat) seat) [] (c, (c, tt)) tt)
      (tt, (c, tt))
  call_within (Buy card seat company source space) e =
      let p = both_granted (on_stock_turn s card seat) _ e in
      let m = both_granted (may_buy b s seat company source space) _ p.1 in
      let a = test_passed (not (is_company b company)) NoSuchCompany _ m.0 in
      let c = in_range company (company_there b company a.0) in
      let first = purchase b s seat company source space in
      let t = all_crossed s first in
      within_append first _ (tt, (c, tt))
      (within_append (overtakes t seat company (director t company)) _ (overtakes_within t seat company (director t company) c)
      (within_either (floats b s company source) (pays bank (treasury s company) (float_money b s company source space) ∷ []) [] (tt, tt) tt))
  call_within (End card seat) e = tt
  call_within (Close card) e = tt
  call_within (Bill card company amount) e = (tt, tt)
  call_within (Payout card company mode revenue) e = payout_within s company (b.split mode revenue)
  call_within (Train card company kind) e =
      within_append (help s company (b.train_price kind) (director s company)) _ (help_within s company (b.train_price kind) (director s company)) (tt, (tt, tt))
  call_within (Done card company) e = tt
  call_within (Reopen card) e = tt
