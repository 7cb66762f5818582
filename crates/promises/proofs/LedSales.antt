-- After a granted sale nobody has more tenths than the director.
use Rattle.std.proofs.Common.{◌≡◌, ℕ, ◌+◌, ◌-◌, ◌*◌, ◌<◌, ◌≤◌, min, Bool, true, false, cond, not, ◌&&◌, ◌||◌, eqb, ltb, leb, ◌≢◌, List, [], ◌∷◌, ◌++◌, get_or, Ok, sym, refl, ap, ◌∙◌, subst, ⊎_elim, arith}
use Rattle.std.proofs.lemmas.Bool.{and_parts, and_cases, or_parts, not-false, ltb-true, ltb-false, leb-true, eqb-true, eq-eqb, cases_eq, true≢false}
use Rattle.faults.specs.declared.table.TableRefusal.TheVariants.{NoSuchCompany, AlreadyBought, TenthsNotHeld, PoolLimit, DirectorNeeded, WrongCard, RoundOver, NoSuchSeat}
use Rattle.kinds.specs.Papers.{bit, sized, size, no_papers}
use Rattle.kinds.specs.declared.papers.Papers.{Papers}
use Rattle.rulebook.specs.Book.{Book}
use Rattle.rulebook.specs.Lawful.{Lawful, Between}
use Rattle.ledger.specs.Answers.{on_stock_turn, stock_card, round_over}
use Rattle.ledger.specs.Certificates.{lowest_ordinary}
use Rattle.ledger.specs.Crossings.{Crossing, pays, hands, moves, crossed, all_crossed, with_company}
use Rattle.ledger.specs.Holdings.{bank, pool, seat_papers, no_company, company_of, papers_at, tenths_at, seat_tenths, price_of, largest_other, is_director, is_seat, is_company}
use Rattle.ledger.specs.Stock.{exchange, keeps, another_leads, director_needed, sell_answer, sell_exchange, sell_crossings, sell_after}
use Rattle.ledger.specs.declared.books.Books.{Books}
use Rattle.ledger.specs.declared.company.Company.{Company}
use Rattle.ledger.proofs.Crossed.{crossed_append}
use Rattle.promises.proofs.Counts.{ordinary_tenths, tenths_ordinary}
use Rattle.promises.proofs.Exchanges.{Exchanged, exchange_swaps}
use Rattle.promises.proofs.Granted.{both_granted, test_passed}
use Rattle.promises.proofs.Led.{Led, LedIn, led_in, led_from, one_place}
use Rattle.promises.proofs.Records.{by_record}
use Rattle.promises.proofs.Seats.{largest_other_in, largest_other_other, largest_other_most}
use Rattle.promises.proofs.Sound.{Sound, crossing_sound, crossings_sound}
use Rattle.promises.proofs.Subsets.{lowest_small, lowest_held, director_out}
use Rattle.promises.proofs.Tenths.{Handed, hands_tenths, tens, heads, Only, only_there, players_kept}

-- IN NUMBERS

module _ (n seat : ℕ) (s1 : 1 ≤ seat) (sn : seat ≤ n) where
  -- a seat sells to the pool, and keeps at least what every other has if it is the director
  module _ (t d u e : ℕ → ℕ) (x : ℕ) (led : LedIn n t d) (h : Handed t d u e (seat + 1) 1 x 0)
      (enough : d (seat + 1) ≡ 1 → (p : ℕ) → 1 ≤ p → p ≤ n → p ≢ seat → t (p + 1) + x ≤ t (seat + 1)) where
    same_heads : (p : ℕ) → e p ≡ d p
    same_heads p =
        ⊎_elim (λ same. let a = h.gave_director in let b = ap e same in let c = ap d same in omega (arith, a, b, c))
        (λ ni.
        ⊎_elim (λ same. let a = h.took_director in let b = ap e same in let c = ap d same in omega (arith, a, b, c))
        (λ nj. h.others_director p ni nj)
        (cases_eq p 1))
        (cases_eq p (seat + 1))

    fewer : (p : ℕ) → p ≢ 1 → u p ≤ t p
    fewer p nj =
        ⊎_elim (λ same. let a = h.gave in let b = ap u same in let c = ap t same in omega (arith, a, b, c))
        (λ ni. let a = h.others p ni nj in omega (arith, a))
        (cases_eq p (seat + 1))

    -- nothing to sell
    empty : d 0 ≡ 1 → (p : ℕ) → 1 ≤ p → u p ≡ 0
    empty own p from =
        let had = led.unopened own (seat + 1) (omega arith) in
        let a = h.gave in
        ⊎_elim (λ same. let z = led.unopened own 1 (omega arith) in let k = h.took in let c = ap u same in omega (arith, had, a, z, k, c))
        (λ nj. let z = led.unopened own p from in let k = fewer p nj in omega (arith, z, k))
        (cases_eq p 1)

    leads_still : (o p : ℕ) → 1 ≤ o → o ≤ n → 1 ≤ p → p ≤ n → d (o + 1) ≡ 1 → u (p + 1) ≤ u (o + 1)
    leads_still o p o1 on p1 pn own =
        let less = fewer (p + 1) (λ z. omega arith) in
        ⊎_elim
        (λ same.
        let at : o + 1 ≡ seat + 1 = omega arith in
        let gave = h.gave in
        let c = ap u at in
        ⊎_elim
        (λ alike. let g = ap (λ (k : ℕ). u (k + 1)) alike in let c' = ap (λ (k : ℕ). u (k + 1)) same in omega (arith, g, c'))
        (λ apart. let k = enough (subst (λ (q : ℕ). d q ≡ 1) at own) p p1 pn apart in omega (arith, k, gave, c, less))
        (cases_eq p seat))
        (λ ne.
        let k = h.others (o + 1) (λ z. ne (omega arith)) (λ z. omega arith) in
        let m = led.leads o p o1 on p1 pn own in
        omega (arith, k, m, less))
        (cases_eq o seat)

    pub sold_plainly : LedIn n u e
    sold_plainly =
        record {
          clean = λ place out. same_heads place ∙ led.clean place out;
          unopened = λ own. empty (sym (same_heads 0) ∙ own);
          leads = λ o p o1 on p1 pn own. leads_still o p o1 on p1 pn (sym (same_heads (o + 1)) ∙ own);
        }

  -- a director who loses the lead: the one who has the most of the others is director when the sale is made
  module _ (new : ℕ) (n1 : 1 ≤ new) (nn : new ≤ n) (ne : new ≢ seat) (t d u e v f : ℕ → ℕ) (x : ℕ) (led : LedIn n t d)
      (one : (i j : ℕ) → i ≢ j → d i + d j ≤ 1) (own : d (seat + 1) ≡ 1)
      (swap : Exchanged t d u e (new + 1) (seat + 1)) (h : Handed u e v f (seat + 1) 1 x 0)
      (most : (p : ℕ) → 1 ≤ p → p ≤ n → p ≢ seat → t (p + 1) ≤ t (new + 1)) (less : t (seat + 1) ≤ t (new + 1) + x) where
    after_heads : (p : ℕ) → p ≢ new + 1 → f p ≡ 0
    after_heads p np =
        ⊎_elim
        (λ same. let a = h.gave_director in let b = swap.old_gave in let c = ap f same in omega (arith, a, b, c, own))
        (λ ns.
        let only = one p (seat + 1) ns in
        let k = swap.others p np ns in
        ⊎_elim (λ same. let a = h.took_director in let b = ap f same in let c = ap e same in omega (arith, a, b, c, k, only, own))
        (λ nj. let a = h.others_director p ns nj in omega (arith, a, k, only, own))
        (cases_eq p 1))
        (cases_eq p (seat + 1))

    held_by : (o : ℕ) → f (o + 1) ≡ 1 → o ≡ new
    held_by o has =
        ⊎_elim (λ same. same) (λ apart. let z = after_heads (o + 1) (λ k. apart (omega arith)) in absurd (omega (arith, z, has))) (cases_eq o new)

    new_keeps : v (new + 1) ≡ t (new + 1)
    new_keeps = h.others (new + 1) (λ k. ne (omega arith)) (λ k. omega arith) ∙ swap.tenths (new + 1)

    below : (p : ℕ) → 1 ≤ p → p ≤ n → v (p + 1) ≤ t (new + 1)
    below p p1 pn =
        ⊎_elim
        (λ same.
        let g = h.gave in
        let w = swap.tenths (seat + 1) in
        let c = ap (λ (k : ℕ). v (k + 1)) same in
        omega (arith, g, w, c, less))
        (λ apart.
        let k = h.others (p + 1) (λ z. apart (omega arith)) (λ z. omega arith) in
        let w = swap.tenths (p + 1) in
        let m = most p p1 pn apart in
        omega (arith, k, w, m))
        (cases_eq p seat)

    pub sold_by_director : LedIn n v f
    sold_by_director =
        record {
          clean = λ place out. after_heads place (λ k. ⊎_elim (λ z. omega (arith, z, k, n1)) (λ z. omega (arith, z, k, nn)) out);
          unopened = λ has. let z = after_heads 0 (λ k. omega arith) in absurd (omega (arith, z, has));
          leads = λ o p o1 on p1 pn has.
              let same = held_by o has in
              let c = ap (λ (k : ℕ). v (k + 1)) same in
              let k = below p p1 pn in
              omega (arith, c, k, new_keeps);
        }

-- IN THE BOOKS

pub led_row : (n : ℕ) (xs ys : List Papers) → ys ≡ xs → LedIn n (λ p. sized size 0 9 (get_or xs p no_papers).certificates) (λ p. bit 0 (get_or xs p no_papers).certificates)
    → LedIn n (λ p. sized size 0 9 (get_or ys p no_papers).certificates) (λ p. bit 0 (get_or ys p no_papers).certificates)
led_row n xs ys e led =
    subst (λ (row : List Papers). LedIn n (λ p. sized size 0 9 (get_or row p no_papers).certificates) (λ p. bit 0 (get_or row p no_papers).certificates)) (sym e) led

-- a record is changed, but not its papers
pub same_papers_row : (t : Books) (company : ℕ) (r : Company) → r.papers ≡ (company_of t company).papers → (other : ℕ) → (company_of (with_company t company r) other).papers ≡ (company_of t other).papers
same_papers_row t company r e other =
    by_record t company r other (λ c. c.papers ≡ (company_of t other).papers) refl
    (λ same. e ∙ ap (λ (n : ℕ). (get_or t.companies n no_company).papers) (sym same))

pub only_append : (company : ℕ) (xs ys : List Crossing) → Only company xs → Only company ys → Only company (xs ++ ys)
only_append company [] ys p q = q
only_append company (pays giver receiver marks ∷ xs) ys p q = only_append company xs ys p q
only_append company (hands of giver receiver bits ∷ xs) ys p q = (p.0, only_append company xs ys p.1 q)
only_append company (moves giver receiver load ∷ xs) ys p q = only_append company xs ys p q

-- crossings of one company's certificates: the others are led as before
pub led_after : (b : Book) (s u : Books) (company : ℕ) (xs : List Crossing) → 1 ≤ company → Led b s → Only company xs → u.players ≡ (all_crossed s xs).players
    → ((other : ℕ) → (company_of u other).papers ≡ (company_of (all_crossed s xs) other).papers)
    → LedIn s.players (λ p. tens (all_crossed s xs) company p) (λ p. heads (all_crossed s xs) company p) → Led b u
led_after b s u company xs low led only same rows here =
    led_from b u (λ other in_book.
    subst (λ (n : ℕ). LedIn n (λ p. tens u other p) (λ p. heads u other p)) (sym (same ∙ players_kept s xs))
    (led_row s.players (company_of (all_crossed s xs) other).papers (company_of u other).papers (rows other)
    (⊎_elim
    (λ e. led_row s.players (company_of (all_crossed s xs) company).papers (company_of (all_crossed s xs) other).papers (ap (λ (n : ℕ). (company_of (all_crossed s xs) n).papers) e) here)
    (λ ne. led_row s.players (company_of s other).papers (company_of (all_crossed s xs) other).papers (ap (λ (c : Company). c.papers) (only_there company other low in_book.0 ne s xs only)) (led_in b s led other in_book))
    (cases_eq other company))))

-- what a granted turn says
pub on_turn : (s : Books) (card seat : ℕ) → on_stock_turn s card seat ≡ Ok tt → (1 ≤ seat) × (seat ≤ s.players)
on_turn s card seat e =
    let a = test_passed (not (stock_card s card)) WrongCard _ e in
    let b = test_passed (round_over s) RoundOver _ a.1 in
    let c = test_passed (not (is_seat s seat)) NoSuchSeat _ b.1 in
    let d = and_parts (leb 1 seat) (leb seat s.players) (not-false _ c.0) in
    (leb-true 1 seat d.0, leb-true seat s.players d.1)

pub in_book_then : (b : Book) (company : ℕ) → not (is_company b company) ≡ false → Between 1 b.companies company
in_book_then b company e =
    let d = and_parts (leb 1 company) (leb company b.companies) (not-false _ e) in
    (leb-true 1 company d.0, leb-true company b.companies d.1)

pub record MaySell (b : Book) (s : Books) (seat company tenths : ℕ) : Type 0 where
  pub s1 : 1 ≤ seat
  pub sn : seat ≤ s.players
  pub in_book : Between 1 b.companies company
  pub held : tenths ≤ seat_tenths s company seat
  pub unneeded : director_needed s seat company tenths ≡ false

pub may_sell : (b : Book) (s : Books) (card seat company tenths : ℕ) → sell_answer b s card seat company tenths ≡ Ok tt → MaySell b s seat company tenths
may_sell b s card seat company tenths e =
    let turn = both_granted (on_stock_turn s card seat) _ e in
    let t = on_turn s card seat turn.0 in
    let a1 = test_passed (not (is_company b company)) NoSuchCompany _ turn.1 in
    let a2 = test_passed s.stock.bought AlreadyBought _ a1.1 in
    let a3 = test_passed (eqb tenths 0 || ltb (seat_tenths s company seat) tenths) TenthsNotHeld _ a2.1 in
    let a4 = test_passed (ltb b.pool_limit (tenths_at s company pool + tenths)) PoolLimit _ a3.1 in
    let a5 = test_passed (director_needed s seat company tenths) DirectorNeeded _ a4.1 in
    record {
      s1 = t.0;
      sn = t.1;
      in_book = in_book_then b company a1.0;
      held = ltb-false (seat_tenths s company seat) tenths (or_parts (eqb tenths 0) (ltb (seat_tenths s company seat) tenths) a3.0).1;
      unneeded = a5.0;
    }

-- of numbers
pub two_at_least : (k m : ℕ) → ltb k m ≡ true → (ltb k 2 && ltb m 2) ≡ false → 2 ≤ m
two_at_least k m more e =
    let lt = ltb-true k m more in
    ⊎_elim (λ f. let le = ltb-false k 2 f in omega arith) (λ f. ltb-false m 2 f) (and_cases (ltb k 2) (ltb m 2) e)

gave_most : (x tenths r : ℕ) → min tenths r ≡ x → x ≤ tenths
gave_most x tenths r e = omega arith

gave_all : (tenths t b r : ℕ) → t ≡ 2 * b + r → b ≡ 0 → tenths ≤ t → min tenths r ≡ tenths
gave_all tenths t b r e z h = omega arith

kept_enough : (t o x tenths best : ℕ) → best ≤ t - tenths → tenths ≤ t → x ≤ tenths → o ≤ best → o + x ≤ t
kept_enough t o x tenths best k held less under = omega arith

kept_less : (t tenths best : ℕ) → t - tenths < best → t ≤ best + tenths
kept_less t tenths best h = omega arith

gave_up : (x y : ℕ) → x + 1 ≡ y → y ≡ 1 → x ≡ 0
gave_up x y e f = omega arith

module _ (b : Book) (lawful : Lawful b) (s : Books) (ok : Sound b s) (led : Led b s) (seat company tenths : ℕ) (may : MaySell b s seat company tenths) where
  abbrev new : ℕ
  new = largest_other s company seat

  low : 1 ≤ company
  low = may.in_book.0

  high : company ≤ 8
  high = let a = may.in_book.1 in let c = lawful.companies_range.1 in omega arith

  few : b.bank ≤ 50000
  few = lawful.bank_range.1

  abbrev rest : Books → List Crossing
  rest t = pays bank seat (tenths * price_of b s company) ∷ (hands company (seat_papers seat) pool (lowest_ordinary tenths (papers_at t company (seat_papers seat)).certificates) ∷ [])

  abbrev Move : Books → Books → ℕ → ℕ → Type 0
  Move t u x y = Handed (λ p. tens t company p) (λ p. heads t company p) (λ p. tens u company p) (λ p. heads u company p) (seat + 1) 1 x y

  pub rest_moves : (t : Books) → Sound b t → (x : ℕ) → min tenths (sized (λ _. 1) 1 8 (papers_at t company (seat_papers seat)).certificates) ≡ x → Move t (all_crossed t (rest t)) x 0
  rest_moves t sound x e =
      let p = ok.seats in
      let sn = may.sn in
      let s1 = may.s1 in
      let set = (papers_at t company (seat_papers seat)).certificates in
      let small = (papers_at t company (seat_papers seat)).nine in
      let pay = pays bank seat (tenths * price_of b s company) in
      let h = hands_tenths b (crossed t pay) (crossing_sound b few t sound pay) company (seat + 1) 1 (lowest_ordinary tenths set) low high (omega arith) (omega arith) (λ k. omega arith) (lowest_small tenths 1 8 set small) (lowest_held tenths 1 8 set small) in
      subst (λ (n : ℕ). Move t (all_crossed t (rest t)) n 0) (ordinary_tenths tenths set ∙ e)
      (subst (λ (m : ℕ). Move t (all_crossed t (rest t)) (sized size 0 9 (lowest_ordinary tenths set)) m) (director_out tenths set) h)

  abbrev Sold : Books → Type 0
  Sold u = LedIn s.players (λ p. tens u company p) (λ p. heads u company p)

  best_of : (p : ℕ) → 1 ≤ p → p ≤ s.players → p ≢ seat → tens s company (p + 1) ≤ tens s company (new + 1)
  best_of p p1 pn apart = largest_other_most s seat may.s1 may.sn company ok.seats.0 p p1 pn apart

  sold : (test : Bool) → another_leads s seat company tenths ≡ test → Sold (all_crossed (all_crossed s (cond test (exchange s company new seat) [])) (rest (all_crossed s (cond test (exchange s company new seat) []))))
  sold true e =
      let parts = and_parts (is_director s company seat) (ltb (keeps s seat company tenths) (seat_tenths s company new)) e in
      let own = eqb-true (heads s company (seat + 1)) 1 parts.0 in
      let unneeded = ⊎_elim (λ f. absurd (true≢false (sym parts.0 ∙ f))) (λ f. f) (and_cases (is_director s company seat) _ may.unneeded) in
      let two = two_at_least (keeps s seat company tenths) (seat_tenths s company new) parts.1 unneeded in
      let inside = largest_other_in s seat may.s1 may.sn company in
      let apart = largest_other_other s seat may.s1 may.sn company ok.seats.0 in
      let t = all_crossed s (exchange s company new seat) in
      let sound = crossings_sound b few s ok (exchange s company new seat) in
      let swap = exchange_swaps b few s ok company new seat low high apart inside.0 inside.1 may.s1 may.sn own two in
      let ordinary = gave_up (heads t company (seat + 1)) (heads s company (seat + 1)) swap.old_gave own in
      let all = gave_all tenths (tens t company (seat + 1)) (heads t company (seat + 1)) (sized (λ _. 1) 1 8 (papers_at t company (seat + 1)).certificates) (tenths_ordinary (papers_at t company (seat + 1)).certificates) ordinary (subst (λ (n : ℕ). tenths ≤ n) (sym (swap.tenths (seat + 1))) may.held) in
      let h = rest_moves t sound tenths all in
      sold_by_director s.players seat may.s1 may.sn new inside.0 inside.1 apart
      (λ p. tens s company p) (λ p. heads s company p) (λ p. tens t company p) (λ p. heads t company p) (λ p. tens (all_crossed t (rest t)) company p) (λ p. heads (all_crossed t (rest t)) company p) tenths
      (led_in b s led company may.in_book) (one_place b s ok company) own swap h best_of
      (kept_less (tens s company (seat + 1)) tenths (tens s company (new + 1)) (ltb-true (keeps s seat company tenths) (seat_tenths s company new) parts.1))
  sold false e =
      let x = min tenths (sized (λ _. 1) 1 8 (papers_at s company (seat_papers seat)).certificates) in
      let less = gave_most x tenths (sized (λ _. 1) 1 8 (papers_at s company (seat_papers seat)).certificates) refl in
      let h = rest_moves s ok x refl in
      sold_plainly s.players seat may.s1 may.sn
      (λ p. tens s company p) (λ p. heads s company p) (λ p. tens (all_crossed s (rest s)) company p) (λ p. heads (all_crossed s (rest s)) company p) x
      (led_in b s led company may.in_book) h
      (λ own p p1 pn apart.
      let keeps_lead = ⊎_elim (λ f. absurd (true≢false (sym (eq-eqb (heads s company (seat + 1)) 1 own) ∙ f))) (λ f. f) (and_cases (is_director s company seat) _ e) in
      kept_enough (tens s company (seat + 1)) (tens s company (p + 1)) x tenths (tens s company (new + 1)) (ltb-false (keeps s seat company tenths) (seat_tenths s company new) keeps_lead) may.held less (best_of p p1 pn apart))

  only_first : (test : Bool) → Only company (cond test (exchange s company new seat) [])
  only_first true = (refl, (refl, tt))
  only_first false = tt

  led_sold : Led b (sell_after b s seat company tenths)
  led_sold =
      let first = sell_exchange s seat company tenths in
      let xs = sell_crossings b s seat company tenths in
      let whole : all_crossed s xs ≡ all_crossed (all_crossed s first) (rest (all_crossed s first)) = crossed_append s first (rest (all_crossed s first)) in
      led_after b s (sell_after b s seat company tenths) company xs low led (only_append company first (rest (all_crossed s first)) (only_first (another_leads s seat company tenths)) (refl, tt)) refl
      (λ other. same_papers_row (all_crossed s xs) company _ refl other)
      (subst Sold (sym whole) (sold (another_leads s seat company tenths) refl))

pub led_after_sale : (b : Book) → Lawful b → (s : Books) → Sound b s → Led b s → (card seat company tenths : ℕ) → sell_answer b s card seat company tenths ≡ Ok tt → Led b (sell_after b s seat company tenths)
led_after_sale b lawful s ok led card seat company tenths e = led_sold b lawful s ok led seat company tenths (may_sell b s card seat company tenths e)
