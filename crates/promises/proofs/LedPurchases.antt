-- After a granted purchase nobody has more tenths than the director.
use Rattle.std.proofs.Common.{◌≡◌, ℕ, ◌+◌, ◌<◌, ◌≤◌, Bool, true, false, cond, not, ◌&&◌, eqb, ltb, ◌≢◌, ◌⊎◌, List, [], ◌∷◌, ◌++◌, Some, None, Ok, Option, sym, refl, ap, ◌∙◌, subst, inl, ⊎_elim, arith}
use Rattle.std.proofs.lemmas.Bool.{and_parts, and_cases, not-true, not-false, ltb-true, ltb-false, eqb-true, eqb-false, eq-eqb, cases_eq, cases_Bool, cond-true, cond-false}
use Rattle.faults.specs.declared.table.TableRefusal.TheVariants.{NoSuchCompany, AlreadyBought, SoldThisRound, NoSuchSource, SourceEmpty, NoParSpace, CertificateLimit, ShareLimit}
use Rattle.kinds.specs.Papers.{bit, sized, size}
use Rattle.kinds.specs.Bits.{bit_below, named_one}
use Rattle.rulebook.specs.Book.{Book}
use Rattle.rulebook.specs.Lawful.{Lawful, Between}
use Rattle.ledger.specs.Answers.{on_stock_turn}
use Rattle.ledger.specs.Certificates.{lowest_one}
use Rattle.ledger.specs.Crossings.{Crossing, pays, crossed, all_crossed}
use Rattle.ledger.specs.Holdings.{bank, treasury, company_of, papers_at, seat_tenths, director, certificates_held, is_company}
use Rattle.ledger.specs.Stock.{exchange, source_set, buys_director, bought_size, sold_this_round, cost, payee, floats, float_money, purchase, overtakes, float_crossing, may_buy, buy_answer, buy_crossings, buy_after}
use Rattle.ledger.specs.declared.books.Books.{Books}
use Rattle.ledger.proofs.Crossed.{crossed_append}
use Rattle.promises.proofs.Counts.{one_tenth, lowest_director}
use Rattle.promises.proofs.Exchanges.{Exchanged, exchange_swaps}
use Rattle.promises.proofs.Granted.{both_granted, test_passed}
use Rattle.promises.proofs.Led.{Led, LedIn, led_in, one_place, same_seat, at_least_two}
use Rattle.promises.proofs.LedSales.{led_after, only_append, same_papers_row, on_turn, in_book_then}
use Rattle.promises.proofs.Seats.{director_holds, director_found}
use Rattle.promises.proofs.Sound.{Sound, crossing_sound, crossings_sound}
use Rattle.promises.proofs.Subsets.{lowest_small, lowest_held, lowest_sub}
use Rattle.promises.proofs.Tenths.{Handed, hands_tenths, tens, heads, Only}

-- IN NUMBERS

-- the company is opened, and nobody but the buyer may have more tenths than the director
record Nearly (n seat : ℕ) (t d : ℕ → ℕ) : Type 0 where
  pub clean : (place : ℕ) → (place ≡ 1) ⊎ (n + 2 ≤ place) → d place ≡ 0
  pub gone : d 0 ≡ 0
  pub leads : (o p : ℕ) → 1 ≤ o → o ≤ n → 1 ≤ p → p ≤ n → p ≢ seat → d (o + 1) ≡ 1 → t (p + 1) ≤ t (o + 1)

-- and the buyer has not either; what he has is what he bought
pub record Settled (n seat : ℕ) (t d u e : ℕ → ℕ) : Type 0 where
  pub led : LedIn n u e
  pub tenths : u (seat + 1) ≡ t (seat + 1)
  pub director : d (seat + 1) ≤ e (seat + 1)

module _ (n seat : ℕ) (s1 : 1 ≤ seat) (sn : seat ≤ n) where
  -- the first certificate of a company
  bought_first : (t d u e : ℕ → ℕ) → LedIn n t d → d 0 ≡ 1 → Handed t d u e 0 (seat + 1) 2 1 → Nearly n seat u e
  bought_first t d u e led own h =
      record {
        clean = λ place out.
            h.others_director place (λ k. ⊎_elim (λ z. omega (arith, z, k)) (λ z. omega (arith, z, k)) out) (λ k. ⊎_elim (λ z. omega (arith, z, k, s1)) (λ z. omega (arith, z, k, sn)) out)
            ∙ led.clean place out;
        gone = let a = h.gave_director in omega (arith, a, own);
        leads = λ o p o1 on p1 pn apart has.
            let a = h.others (p + 1) (λ k. omega arith) (λ k. apart (omega arith)) in
            let z = led.unopened own (p + 1) (omega arith) in
            omega (arith, a, z);
      }

  -- any other
  module _ (source : ℕ) (two : source ≤ 1) (t d u e : ℕ → ℕ) (led : LedIn n t d) (none : d 0 ≡ 0) (h : Handed t d u e source (seat + 1) 1 0) where
    same_heads : (p : ℕ) → e p ≡ d p
    same_heads p =
        ⊎_elim (λ same. let a = h.gave_director in let b = ap e same in let c = ap d same in omega (arith, a, b, c))
        (λ ni.
        ⊎_elim (λ same. let a = h.took_director in let b = ap e same in let c = ap d same in omega (arith, a, b, c))
        (λ nj. h.others_director p ni nj)
        (cases_eq p (seat + 1)))
        (cases_eq p source)

    no_fewer : (o : ℕ) → 1 ≤ o → t (o + 1) ≤ u (o + 1)
    no_fewer o o1 =
        ⊎_elim
        (λ same. let a = h.took in let b = ap (λ (k : ℕ). u (k + 1)) same in let c = ap (λ (k : ℕ). t (k + 1)) same in omega (arith, a, b, c))
        (λ ne. let a = h.others (o + 1) (λ k. omega arith) (λ k. ne (omega arith)) in omega (arith, a))
        (cases_eq o seat)

    bought_another : Nearly n seat u e
    bought_another =
        record {
          clean = λ place out. same_heads place ∙ led.clean place out;
          gone = same_heads 0 ∙ none;
          leads = λ o p o1 on p1 pn apart has.
              let a = h.others (p + 1) (λ k. omega arith) (λ k. apart (omega arith)) in
              let m = led.leads o p o1 on p1 pn (sym (same_heads (o + 1)) ∙ has) in
              let k = no_fewer o o1 in
              omega (arith, a, m, k);
        }

  module _ (t d : ℕ → ℕ) (near : Nearly n seat t d) where
    -- no exchange
    stays : ((o : ℕ) → 1 ≤ o → o ≤ n → d (o + 1) ≡ 1 → t (seat + 1) ≤ t (o + 1)) → Settled n seat t d t d
    stays behind =
        record {
          led = record {
            clean = near.clean;
            unopened = λ own. let z = near.gone in absurd (omega (arith, z, own));
            leads = λ o p o1 on p1 pn has.
                ⊎_elim (λ same. let b = behind o o1 on has in let c = ap (λ (k : ℕ). t (k + 1)) same in omega (arith, b, c))
                (λ apart. near.leads o p o1 on p1 pn apart has)
                (cases_eq p seat);
          };
          tenths = refl;
          director = omega arith;
        }

    -- the buyer overtakes the director
    module _ (old : ℕ) (o1 : 1 ≤ old) (on : old ≤ n) (ne : seat ≢ old) (u e : ℕ → ℕ) (one : (i j : ℕ) → i ≢ j → d i + d j ≤ 1) (own : d (old + 1) ≡ 1)
        (more : t (old + 1) < t (seat + 1)) (swap : Exchanged t d u e (seat + 1) (old + 1)) where
      after_heads : (p : ℕ) → p ≢ seat + 1 → e p ≡ 0
      after_heads p np =
          ⊎_elim (λ same. let b = swap.old_gave in let c = ap e same in omega (arith, b, c, own))
          (λ apart. let k = swap.others p np apart in let m = one p (old + 1) apart in omega (arith, k, m, own))
          (cases_eq p (old + 1))

      held_by : (o : ℕ) → e (o + 1) ≡ 1 → o ≡ seat
      held_by o has =
          ⊎_elim (λ same. same) (λ apart. let z = after_heads (o + 1) (λ k. apart (omega arith)) in absurd (omega (arith, z, has))) (cases_eq o seat)

      below : (p : ℕ) → 1 ≤ p → p ≤ n → u (p + 1) ≤ u (seat + 1)
      below p p1 pn =
          let w = swap.tenths (p + 1) in
          let v = swap.tenths (seat + 1) in
          ⊎_elim (λ same. let c = ap (λ (k : ℕ). u (k + 1)) same in omega (arith, c))
          (λ apart. let k = near.leads old p o1 on p1 pn apart own in omega (arith, k, w, v, more))
          (cases_eq p seat)

      overtaken : Settled n seat t d u e
      overtaken =
          record {
            led = record {
              clean = λ place out. after_heads place (λ k. ⊎_elim (λ z. omega (arith, z, k, s1)) (λ z. omega (arith, z, k, sn)) out);
              unopened = λ has. let z = after_heads 0 (λ k. omega arith) in absurd (omega (arith, z, has));
              leads = λ o p q1 qn p1 pn has.
                  let same = held_by o has in
                  let c = ap (λ (k : ℕ). u (k + 1)) same in
                  let k = below p p1 pn in
                  omega (arith, c, k);
            };
            tenths = swap.tenths (seat + 1);
            director = let k = swap.new_has in omega (arith, k);
          }

-- IN THE BOOKS

pub record MayBuy (b : Book) (s : Books) (seat company source : ℕ) : Type 0 where
  pub s1 : 1 ≤ seat
  pub sn : seat ≤ s.players
  pub in_book : Between 1 b.companies company
  pub two : source ≤ 1
  pub some : source_set s company source ≢ 0
  pub certificates : certificates_held s seat b.companies + 1 ≤ b.certificate_limit s.players
  pub tenths : seat_tenths s company seat + bought_size s company source ≤ b.share_limit

pub may_buy_then : (b : Book) (s : Books) (card seat company source space : ℕ) → buy_answer b s card seat company source space ≡ Ok tt → MayBuy b s seat company source
may_buy_then b s card seat company source space e =
    let turn = both_granted (on_stock_turn s card seat) _ e in
    let t = on_turn s card seat turn.0 in
    let may = (both_granted (may_buy b s seat company source space) _ turn.1).0 in
    let a1 = test_passed (not (is_company b company)) NoSuchCompany _ may in
    let a2 = test_passed s.stock.bought AlreadyBought _ a1.1 in
    let a3 = test_passed (sold_this_round s seat company) SoldThisRound _ a2.1 in
    let a4 = test_passed (ltb 1 source) NoSuchSource _ a3.1 in
    let a5 = test_passed (eqb (source_set s company source) 0) SourceEmpty _ a4.1 in
    let a6 = test_passed (buys_director s company source && not (b.par space)) NoParSpace _ a5.1 in
    let a7 = test_passed (ltb (b.certificate_limit s.players) (certificates_held s seat b.companies + 1)) CertificateLimit _ a6.1 in
    let a8 = test_passed (ltb b.share_limit (seat_tenths s company seat + bought_size s company source)) ShareLimit _ a7.1 in
    record {
      s1 = t.0;
      sn = t.1;
      in_book = in_book_then b company a1.0;
      two = ltb-false 1 source a4.0;
      some = eqb-false (source_set s company source) 0 a5.0;
      certificates = ltb-false (b.certificate_limit s.players) (certificates_held s seat b.companies + 1) a7.0;
      tenths = ltb-false b.share_limit (seat_tenths s company seat + bought_size s company source) a8.0;
    }

-- of numbers
none_of_none : (x y : ℕ) → x ≤ y → y ≡ 0 → x ≡ 0
none_of_none x y h e = omega arith

nought_not_one : (x : ℕ) → x ≡ 0 → x ≡ 1 → ⊥
nought_not_one x e f = omega arith

only_nought : (x : ℕ) → x < 2 → x ≢ 1 → x ≡ 0
only_nought x h ne = omega arith

the_pool : (x : ℕ) → x ≤ 1 → x ≢ 0 → x ≡ 1
the_pool x h ne = omega arith

two_below : (x y : ℕ) → 2 ≤ x → x < y → 2 ≤ y
two_below x y h k = omega arith

pub record Sized (x y size : ℕ) : Type 0 where
  pub tenths : x ≡ size
  pub director : x ≡ y + 1

module _ (b : Book) (lawful : Lawful b) (s : Books) (ok : Sound b s) (led : Led b s) (seat company source space : ℕ) (may : MayBuy b s seat company source) where
  abbrev set : ℕ
  set = source_set s company source

  abbrev found : ℕ
  found = lowest_one set

  abbrev pay : Crossing
  pay = pays seat (payee b s company source) (cost b s company source space)

  abbrev first : List Crossing
  first = purchase b s seat company source space

  abbrev t : Books
  t = all_crossed s first

  low : 1 ≤ company
  low = may.in_book.0

  high : company ≤ 8
  high = let a = may.in_book.1 in let c = lawful.companies_range.1 in omega arith

  few : b.bank ≤ 50000
  few = lawful.bank_range.1

  sound : Sound b t
  sound = crossings_sound b few s ok first

  abbrev Move : ℕ → ℕ → ℕ → Type 0
  Move i x y = Handed (λ p. tens s company p) (λ p. heads s company p) (λ p. tens t company p) (λ p. heads t company p) i (seat + 1) x y

  pub first_moves : Move source (sized size 0 9 found) (bit 0 found)
  first_moves =
      let p = ok.seats in
      let sn = may.sn in
      let s1 = may.s1 in
      let two = may.two in
      let small = (papers_at s company source).nine in
      hands_tenths b (crossed s pay) (crossing_sound b few s ok pay) company source (seat + 1) found low high (omega arith) (omega arith) (λ k. omega arith) (lowest_small 1 0 9 set small) (lowest_held 1 0 9 set small)

  module _ (yes : buys_director s company source ≡ true) where
    first_own : bit 0 set ≡ 1
    first_own = eqb-true (bit 0 set) 1 yes

    from_offering : source ≡ 0
    from_offering =
        ⊎_elim (λ e. e) (λ ne. absurd (nought_not_one (bit 0 set) (led.clean company source may.in_book (inl (the_pool source may.two ne))) first_own)) (cases_eq source 0)

    first_tenths : sized size 0 9 found ≡ 2
    first_tenths = ap (sized size 0 9) (lowest_director set first_own)

    first_head : bit 0 found ≡ 1
    first_head = ap (bit 0) (lowest_director set first_own)

    nearly_first : Nearly s.players seat (λ p. tens t company p) (λ p. heads t company p)
    nearly_first =
        bought_first s.players seat may.s1 may.sn (λ p. tens s company p) (λ p. heads s company p) (λ p. tens t company p) (λ p. heads t company p) (led_in b s led company may.in_book)
        (subst (λ (n : ℕ). heads s company n ≡ 1) from_offering first_own)
        (subst (λ (n : ℕ). Move n 2 1) from_offering
        (subst (λ (n : ℕ). Move source n 1) first_tenths
        (subst (λ (m : ℕ). Move source (sized size 0 9 found) m) first_head first_moves)))

  module _ (no : buys_director s company source ≡ false) where
    other_none : bit 0 set ≡ 0
    other_none = named_one 0 set no

    other_tenths : sized size 0 9 found ≡ 1
    other_tenths = one_tenth set other_none may.some (papers_at s company source).nine

    other_head : bit 0 found ≡ 0
    other_head = none_of_none (bit 0 found) (bit 0 set) (lowest_sub 1 0 9 set 0) other_none

    open_before : heads s company 0 ≡ 0
    open_before =
        ⊎_elim (λ e. subst (λ (n : ℕ). heads s company n ≡ 0) e other_none)
        (λ ne. only_nought (heads s company 0) (bit_below 0 _) (λ own.
        let p = the_pool source may.two ne in
        may.some (led.unopened company source may.in_book (eq-eqb (heads s company 0) 1 own) (omega (arith, p)))))
        (cases_eq source 0)

    nearly_another : Nearly s.players seat (λ p. tens t company p) (λ p. heads t company p)
    nearly_another =
        bought_another s.players seat may.s1 may.sn source may.two (λ p. tens s company p) (λ p. heads s company p) (λ p. tens t company p) (λ p. heads t company p) (led_in b s led company may.in_book)
        open_before
        (subst (λ (n : ℕ). Move source n 0) other_tenths
        (subst (λ (m : ℕ). Move source (sized size 0 9 found) m) other_head first_moves))

  pub first_sized : Sized (sized size 0 9 found) (bit 0 found) (bought_size s company source)
  first_sized =
      ⊎_elim
      (λ yes. record { tenths = first_tenths yes ∙ sym (cond-true (buys_director s company source) 2 1 yes); director = first_tenths yes ∙ ap (λ z. z + 1) (sym (first_head yes)) })
      (λ no. record { tenths = other_tenths no ∙ sym (cond-false (buys_director s company source) 2 1 no); director = other_tenths no ∙ ap (λ z. z + 1) (sym (other_head no)) })
      (cases_Bool (buys_director s company source))

  nearly : Nearly s.players seat (λ p. tens t company p) (λ p. heads t company p)
  nearly = ⊎_elim nearly_first nearly_another (cases_Bool (buys_director s company source))

  abbrev After : Books → Type 0
  After u = Settled s.players seat (λ p. tens t company p) (λ p. heads t company p) (λ p. tens u company p) (λ p. heads u company p)

  no_exchange : ((o : ℕ) → 1 ≤ o → o ≤ s.players → heads t company (o + 1) ≡ 1 → tens t company (seat + 1) ≤ tens t company (o + 1)) → After t
  no_exchange = stays s.players seat may.s1 may.sn (λ p. tens t company p) (λ p. heads t company p) nearly

  settled : (o : Option ℕ) → director t company ≡ o → After (all_crossed t (overtakes t seat company o))
  settled None e =
      no_exchange (λ o o1 on has.
      let found_one = director_found t company o (eq-eqb (heads t company (o + 1)) 1 has) o1 on in
      let both : None ≡ Some found_one.0 = sym e ∙ found_one.1 in
      let z : ◌≡◌ {A = ℕ} 0 1 = cc in
      absurd (omega (arith, z)))
  settled (Some old) e = by_test (not (eqb old seat) && ltb (seat_tenths t company old) (seat_tenths t company seat)) refl
    where
      holder : (holds : heads t company (old + 1) ≡ 1) (o : ℕ) → heads t company (o + 1) ≡ 1 → o ≡ old
      holder holds o has = same_seat b t sound company o old has holds

      under : (x y z : ℕ) → x ≤ y → z ≡ y → x ≤ z
      under x y z h k = omega arith

      alike : (x y : ℕ) → y ≡ x → x ≤ y
      alike x y k = omega arith

      by_test : (test : Bool) → (not (eqb old seat) && ltb (seat_tenths t company old) (seat_tenths t company seat)) ≡ test → After (all_crossed t (cond test (exchange t company seat old) []))
      by_test true yes_test =
          let d = director_holds t company old e in
          let holds = eqb-true (heads t company (old + 1)) 1 d.0 in
          let parts = and_parts (not (eqb old seat)) (ltb (seat_tenths t company old) (seat_tenths t company seat)) yes_test in
          let apart : seat ≢ old = λ same. eqb-false old seat (not-true _ parts.0) (sym same) in
          let more = ltb-true (tens t company (old + 1)) (tens t company (seat + 1)) parts.1 in
          let has = two_below (tens t company (old + 1)) (tens t company (seat + 1)) (at_least_two (papers_at t company (old + 1)).certificates holds) more in
          let u = all_crossed t (exchange t company seat old) in
          let swap = exchange_swaps b few t sound company seat old low high apart may.s1 may.sn d.1 d.2 holds has in
          overtaken s.players seat may.s1 may.sn (λ p. tens t company p) (λ p. heads t company p) nearly old d.1 d.2 apart (λ p. tens u company p) (λ p. heads u company p) (one_place b t sound company) holds more swap
      by_test false no_test =
          let d = director_holds t company old e in
          let holds = eqb-true (heads t company (old + 1)) 1 d.0 in
          no_exchange (λ o o1 on has.
          let same : tens t company (o + 1) ≡ tens t company (old + 1) = ap (λ (k : ℕ). tens t company (k + 1)) (holder holds o has) in
          ⊎_elim
          (λ self.
          let mine : old ≡ seat = eqb-true old seat (not-false _ self) in
          alike (tens t company (seat + 1)) (tens t company (o + 1)) (same ∙ ap (λ (k : ℕ). tens t company (k + 1)) mine))
          (λ less. under (tens t company (seat + 1)) (tens t company (old + 1)) (tens t company (o + 1)) (ltb-false (tens t company (old + 1)) (tens t company (seat + 1)) less) same)
          (and_cases (not (eqb old seat)) (ltb (seat_tenths t company old) (seat_tenths t company seat)) no_test))

  abbrev second : List Crossing
  second = overtakes t seat company (director t company)

  abbrev u : Books
  u = all_crossed t second

  abbrev third : List Crossing
  third = float_crossing b s company source space

  abbrev money : Crossing
  money = pays bank (treasury s company) (float_money b s company source space)

  floated : (test : Bool) → After u → After (all_crossed u (cond test (money ∷ []) []))
  floated true a = a
  floated false a = a

  whole : all_crossed s (buy_crossings b s seat company source space) ≡ all_crossed u third
  whole = crossed_append s first (second ++ third) ∙ crossed_append t second third

  pub bought : After (all_crossed s (buy_crossings b s seat company source space))
  bought = subst After (sym whole) (floated (floats b s company source) (settled (director t company) refl))

  only_second : (o : Option ℕ) → Only company (overtakes t seat company o)
  only_second None = tt
  only_second (Some old) = by_test (not (eqb old seat) && ltb (seat_tenths t company old) (seat_tenths t company seat))
    where
      by_test : (test : Bool) → Only company (cond test (exchange t company seat old) [])
      by_test true = (refl, (refl, tt))
      by_test false = tt

  only_third : (test : Bool) → Only company (cond test (money ∷ []) [])
  only_third true = tt
  only_third false = tt

  pub only_bought : Only company (buy_crossings b s seat company source space)
  only_bought =
      only_append company first (second ++ third) (refl, tt)
      (only_append company second third (only_second (director t company)) (only_third (floats b s company source)))

  pub rows_after : (other : ℕ) → (company_of (buy_after b s seat company source space) other).papers ≡ (company_of (all_crossed s (buy_crossings b s seat company source space)) other).papers
  rows_after other = same_papers_row (all_crossed s (buy_crossings b s seat company source space)) company _ refl other

  led_bought : Led b (buy_after b s seat company source space)
  led_bought =
      led_after b s (buy_after b s seat company source space) company (buy_crossings b s seat company source space) low led only_bought refl rows_after bought.led

pub led_after_purchase : (b : Book) → Lawful b → (s : Books) → Sound b s → Led b s → (card seat company source space : ℕ) → buy_answer b s card seat company source space ≡ Ok tt → Led b (buy_after b s seat company source space)
led_after_purchase b lawful s ok led card seat company source space e = led_bought b lawful s ok led seat company source space (may_buy_then b s card seat company source space e)
