-- What granted sales and purchases leave of the tenths of their company.
use Rattle.std.proofs.Common.{◌≡◌, ℕ, ◌+◌, ◌-◌, ◌*◌, ◌<◌, ◌≤◌, min, Bool, true, false, cond, not, ◌&&◌, eqb, ltb, ◌≢◌, List, [], ◌∷◌, ◌++◌, get_or, Some, None, Ok, Option, sym, refl, ap, ◌∙◌, subst, ⊎_elim, arith}
use Rattle.std.proofs.lemmas.Bool.{and_parts, and_cases, ltb-true, ltb-false, eqb-true, eqb-false, not-true, true≢false}
use Rattle.kinds.specs.Papers.{sized, size, no_papers}
use Rattle.kinds.specs.declared.papers.Papers.{Papers}
use Rattle.rulebook.specs.Book.{Book}
use Rattle.rulebook.specs.Lawful.{Lawful}
use Rattle.ledger.specs.Certificates.{lowest_ordinary}
use Rattle.ledger.specs.Crossings.{Crossing, pays, hands, all_crossed}
use Rattle.ledger.specs.Holdings.{bank, treasury, pool, director, seat_papers, papers_at, tenths_at, seat_tenths, price_of, largest_other, is_director}
use Rattle.ledger.specs.Lives.{answer, granted_after, if_granted, after}
use Rattle.ledger.specs.Stock.{exchange, keeps, another_leads, sell_exchange, sell_crossings, sell_after, bought_size, purchase, overtakes, floats, float_money, float_crossing, buy_crossings, buy_after}
use Rattle.ledger.specs.declared.books.Books.{Books}
use Rattle.ledger.specs.declared.call.Call.TheVariants.{Sell, Buy}
use Rattle.ledger.proofs.Crossed.{crossed_append}
use Rattle.promises.specs.CallsLeave.{TenthsSold, TenthsBought}
use Rattle.promises.proofs.Counts.{tenths_ordinary}
use Rattle.promises.proofs.Exchanges.{exchange_swaps}
use Rattle.promises.proofs.Led.{Led, one_place, at_least_two}
use Rattle.promises.proofs.LedPurchases.{MayBuy, may_buy_then, first_moves, first_sized, rows_after}
use Rattle.promises.proofs.LedSales.{MaySell, may_sell, rest_moves, same_papers_row}
use Rattle.promises.proofs.Seats.{largest_other_in, largest_other_other, director_holds}
use Rattle.promises.proofs.Sound.{Sound, crossings_sound}
use Rattle.promises.proofs.Tenths.{tens, heads}

-- of numbers
size_added : (t0 t1 t2 x size : ℕ) → t1 ≡ t0 + x → t2 ≡ t1 → x ≡ size → t2 ≡ t0 + size
size_added t0 t1 t2 x size e f g = omega arith

size_left : (t0 t1 t2 x size : ℕ) → t1 + x ≡ t0 → t2 ≡ t1 → x ≡ size → t2 + size ≡ t0
size_left t0 t1 t2 x size e f g = omega arith

two_below : (x y : ℕ) → 2 ≤ x → x < y → 2 ≤ y
two_below x y h k = omega arith

gave_all : (tenths t b r : ℕ) → t ≡ 2 * b + r → b ≡ 0 → tenths ≤ t → min tenths r ≡ tenths
gave_all tenths t b r e z h = omega arith

gave_these : (tenths t b r : ℕ) → t ≡ 2 * b + r → b ≡ 1 → 2 ≤ t - tenths → min tenths r ≡ tenths
gave_these tenths t b r e z h = omega arith

two_at_least : (k m : ℕ) → ltb k m ≡ true → (ltb k 2 && ltb m 2) ≡ false → 2 ≤ m
two_at_least k m more e =
    let lt = ltb-true k m more in
    ⊎_elim (λ f. let le = ltb-false k 2 f in omega arith) (λ f. ltb-false m 2 f) (and_cases (ltb k 2) (ltb m 2) e)

two_kept : (k m : ℕ) → ltb k m ≡ false → (ltb k 2 && ltb m 2) ≡ false → 2 ≤ k
two_kept k m no_more e =
    let le = ltb-false k m no_more in
    ⊎_elim (λ f. ltb-false k 2 f) (λ f. let two = ltb-false m 2 f in omega arith) (and_cases (ltb k 2) (ltb m 2) e)

gave_up : (x y : ℕ) → x + 1 ≡ y → y ≡ 1 → x ≡ 0
gave_up x y e f = omega arith

no_more_than_one : (x y : ℕ) → x + y ≤ 1 → x ≢ 1 → x ≡ 0
no_more_than_one x y h ne = omega arith

module _ (b : Book) (lawful : Lawful b) (s : Books) (ok : Sound b s) (led : Led b s) where
  module _ (seat company source space : ℕ) (may : MayBuy b s seat company source) where
    abbrev with_it : Books
    with_it = all_crossed s (purchase b s seat company source space)

    abbrev third : List Crossing
    third = float_crossing b s company source space

    there : Sound b with_it
    there = crossings_sound b lawful.bank_range.1 s ok (purchase b s seat company source space)

    in_range : company ≤ 8
    in_range = let a = may.in_book.1 in let c = lawful.companies_range.1 in omega arith

    -- an exchange leaves every tenth count as it was
    settled : (o : Option ℕ) → director with_it company ≡ o → (p : ℕ) → tens (all_crossed with_it (overtakes with_it seat company o)) company p ≡ tens with_it company p
    settled None e p = refl
    settled (Some old) e p = by_test (not (eqb old seat) && ltb (seat_tenths with_it company old) (seat_tenths with_it company seat)) refl
      where
        by_test : (test : Bool) → (not (eqb old seat) && ltb (seat_tenths with_it company old) (seat_tenths with_it company seat)) ≡ test → tens (all_crossed with_it (cond test (exchange with_it company seat old) [])) company p ≡ tens with_it company p
        by_test true yes_test =
            let d = director_holds with_it company old e in
            let holds = eqb-true (heads with_it company (old + 1)) 1 d.0 in
            let parts = and_parts (not (eqb old seat)) (ltb (seat_tenths with_it company old) (seat_tenths with_it company seat)) yes_test in
            let apart : seat ≢ old = λ same. eqb-false old seat (not-true _ parts.0) (sym same) in
            let more = ltb-true (tens with_it company (old + 1)) (tens with_it company (seat + 1)) parts.1 in
            let has = two_below (tens with_it company (old + 1)) (tens with_it company (seat + 1)) (at_least_two (papers_at with_it company (old + 1)).certificates holds) more in
            (exchange_swaps b lawful.bank_range.1 with_it there company seat old may.in_book.0 in_range apart may.s1 may.sn d.1 d.2 holds has).tenths p
        by_test false no_test = refl

    paid : (u : Books) (test : Bool) (p : ℕ) → tens (all_crossed u (cond test (pays bank (treasury s company) (float_money b s company source space) ∷ []) [])) company p ≡ tens u company p
    paid u true p = refl
    paid u false p = refl

    all_bought : (p : ℕ) → tens (all_crossed s (buy_crossings b s seat company source space)) company p ≡ tens with_it company p
    all_bought p =
        let first = purchase b s seat company source space in
        let second = overtakes with_it seat company (director with_it company) in
        ap (λ (u : Books). tens u company p) (crossed_append s first (second ++ third) ∙ crossed_append with_it second third)
        ∙ (paid (all_crossed with_it second) (floats b s company source) p ∙ settled (director with_it company) refl p)

    noted : (p : ℕ) → tens (buy_after b s seat company source space) company p ≡ tens with_it company p
    noted p =
        ap (λ (row : List Papers). sized size 0 9 (get_or row p no_papers).certificates) (rows_after b lawful s ok led seat company source space may company) ∙ all_bought p

    all_tenths : TenthsBought s (buy_after b s seat company source space) seat company source (bought_size s company source)
    all_tenths =
        let h = first_moves b lawful s ok led seat company source space may in
        let x = (first_sized b lawful s ok led seat company source space may).tenths in
        record {
          buyer_gets = size_added (tens s company (seat + 1)) (tens with_it company (seat + 1)) _ _ (bought_size s company source) h.took (noted (seat + 1)) x;
          source_gives = size_left (tens s company source) (tens with_it company source) _ _ (bought_size s company source) h.gave (noted source) x;
          others_keep = λ place ns np. noted place ∙ h.others place np ns;
        }

  pub tenths_bought : (card seat company source space : ℕ) → answer b s (Buy card seat company source space) ≡ Ok tt → TenthsBought s (after b s (Buy card seat company source space)) seat company source (bought_size s company source)
  tenths_bought card seat company source space e =
      let c = Buy card seat company source space in
      subst (λ a. TenthsBought s (if_granted a (granted_after b s c) s) seat company source (bought_size s company source)) (sym e)
      (all_tenths seat company source space (may_buy_then b s card seat company source space e))

  module _ (seat company tenths : ℕ) (may : MaySell b s seat company tenths) where
    abbrev new : ℕ
    new = largest_other s company seat

    low : 1 ≤ company
    low = may.in_book.0

    high : company ≤ 8
    high = let a = may.in_book.1 in let c = lawful.companies_range.1 in omega arith

    few : b.bank ≤ 50000
    few = lawful.bank_range.1

    abbrev rest : Books → List Crossing
    rest t = pays bank seat (tenths * price_of b s company) ∷ (hands company (seat_papers seat) pool (lowest_ordinary tenths (papers_at t company (seat_papers seat)).certificates) ∷ [])

    -- a director who keeps the lead keeps two tenths
    all_ordinary : another_leads s seat company tenths ≡ false → (d : Bool) → is_director s company seat ≡ d → min tenths (sized (λ _. 1) 1 8 (papers_at s company (seat_papers seat)).certificates) ≡ tenths
    all_ordinary e true own =
        let keeps_lead = ⊎_elim (λ f. absurd (true≢false (sym own ∙ f))) (λ f. f) (and_cases (is_director s company seat) _ e) in
        let unneeded = ⊎_elim (λ f. absurd (true≢false (sym own ∙ f))) (λ f. f) (and_cases (is_director s company seat) _ may.unneeded) in
        gave_these tenths (tens s company (seat + 1)) (heads s company (seat + 1)) (sized (λ _. 1) 1 8 (papers_at s company (seat + 1)).certificates) (tenths_ordinary (papers_at s company (seat + 1)).certificates)
        (eqb-true (heads s company (seat + 1)) 1 own) (two_kept (keeps s seat company tenths) (seat_tenths s company new) keeps_lead unneeded)
    all_ordinary e false not_own =
        let none = no_more_than_one (heads s company (seat + 1)) (heads s company 0) (one_place b s ok company (seat + 1) 0 (λ k. omega arith)) (eqb-false (heads s company (seat + 1)) 1 not_own) in
        gave_all tenths (tens s company (seat + 1)) (heads s company (seat + 1)) (sized (λ _. 1) 1 8 (papers_at s company (seat + 1)).certificates) (tenths_ordinary (papers_at s company (seat + 1)).certificates) none may.held

    sold : (test : Bool) → another_leads s seat company tenths ≡ test → TenthsSold s (all_crossed (all_crossed s (cond test (exchange s company new seat) [])) (rest (all_crossed s (cond test (exchange s company new seat) [])))) seat company tenths
    sold true e =
        let parts = and_parts (is_director s company seat) (ltb (keeps s seat company tenths) (seat_tenths s company new)) e in
        let own = eqb-true (heads s company (seat + 1)) 1 parts.0 in
        let unneeded = ⊎_elim (λ f. absurd (true≢false (sym parts.0 ∙ f))) (λ f. f) (and_cases (is_director s company seat) _ may.unneeded) in
        let two = two_at_least (keeps s seat company tenths) (seat_tenths s company new) parts.1 unneeded in
        let inside = largest_other_in s seat may.s1 may.sn company in
        let apart = largest_other_other s seat may.s1 may.sn company ok.seats.0 in
        let t = all_crossed s (exchange s company new seat) in
        let sound = crossings_sound b few s ok (exchange s company new seat) in
        let swap = exchange_swaps b few s ok company new seat low high apart inside.0 inside.1 may.s1 may.sn own two in
        let ordinary = gave_up (heads t company (seat + 1)) (heads s company (seat + 1)) swap.old_gave own in
        let all = gave_all tenths (tens t company (seat + 1)) (heads t company (seat + 1)) (sized (λ _. 1) 1 8 (papers_at t company (seat + 1)).certificates) (tenths_ordinary (papers_at t company (seat + 1)).certificates) ordinary (subst (λ (n : ℕ). tenths ≤ n) (sym (swap.tenths (seat + 1))) may.held) in
        let h = rest_moves b lawful s ok led seat company tenths may t sound tenths all in
        record {
          seller_gives = h.gave ∙ swap.tenths (seat + 1);
          pool_gets = h.took ∙ ap (λ (n : ℕ). n + tenths) (swap.tenths 1);
          others_keep = λ place ns np. h.others place ns np ∙ swap.tenths place;
        }
    sold false e =
        let h = rest_moves b lawful s ok led seat company tenths may s ok tenths (all_ordinary e (is_director s company seat) refl) in
        record { seller_gives = h.gave; pool_gets = h.took; others_keep = λ place ns np. h.others place ns np }

    whole : all_crossed s (sell_crossings b s seat company tenths) ≡ all_crossed (all_crossed s (sell_exchange s seat company tenths)) (rest (all_crossed s (sell_exchange s seat company tenths)))
    whole = crossed_append s (sell_exchange s seat company tenths) (rest (all_crossed s (sell_exchange s seat company tenths)))

    crossed_sold : TenthsSold s (all_crossed s (sell_crossings b s seat company tenths)) seat company tenths
    crossed_sold = subst (λ (u : Books). TenthsSold s u seat company tenths) (sym whole) (sold (another_leads s seat company tenths) refl)

    same_tenths : (place : ℕ) → tenths_at (sell_after b s seat company tenths) company place ≡ tenths_at (all_crossed s (sell_crossings b s seat company tenths)) company place
    same_tenths place = ap (λ (row : List Papers). sized size 0 9 (get_or row place no_papers).certificates) (same_papers_row (all_crossed s (sell_crossings b s seat company tenths)) company _ refl company)

    after_sold : TenthsSold s (sell_after b s seat company tenths) seat company tenths
    after_sold =
        record {
          seller_gives = ap (λ (n : ℕ). n + tenths) (same_tenths (seat + 1)) ∙ crossed_sold.seller_gives;
          pool_gets = same_tenths 1 ∙ crossed_sold.pool_gets;
          others_keep = λ place ns np. same_tenths place ∙ crossed_sold.others_keep place ns np;
        }

  pub tenths_sold : (card seat company tenths : ℕ) → answer b s (Sell card seat company tenths) ≡ Ok tt → TenthsSold s (after b s (Sell card seat company tenths)) seat company tenths
  tenths_sold card seat company tenths e =
      let c = Sell card seat company tenths in
      subst (λ a. TenthsSold s (if_granted a (granted_after b s c) s) seat company tenths) (sym e)
      (after_sold seat company tenths (may_sell b s card seat company tenths e))
