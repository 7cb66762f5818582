-- Who directs the company after a granted sale or purchase.
use Rattle.std.proofs.Common.{◌≡◌, ℕ, zero, suc, ◌+◌, ◌*◌, ◌<◌, ◌≤◌, min, Bool, true, false, cond, not, ◌&&◌, eqb, ltb, ◌≢◌, List, [], ◌∷◌, ◌++◌, get_or, Some, None, Ok, Option, sym, refl, ap, ◌∙◌, subst, ⊎_elim, arith}
use Rattle.std.proofs.lemmas.Bool.{and_from, and_parts, and_cases, not_from_false, not-true, ltb-true, lt-ltb, eqb-true, eqb-false, eq-eqb, ne_eqb, cases_eq, cases_Bool, cond-true, cond-false, true≢false}
use Rattle.kinds.specs.Papers.{bit, sized, size, no_papers}
use Rattle.kinds.specs.declared.papers.Papers.{Papers}
use Rattle.kinds.specs.Bits.{bit_below}
use Rattle.rulebook.specs.Book.{Book}
use Rattle.rulebook.specs.Lawful.{Lawful}
use Rattle.ledger.specs.Certificates.{lowest_one, lowest_ordinary}
use Rattle.ledger.specs.Crossings.{Crossing, pays, hands, all_crossed}
use Rattle.ledger.specs.Holdings.{bank, treasury, pool, director, director_from, seat_papers, papers_at, seat_tenths, price_of, largest_other, is_director}
use Rattle.ledger.specs.Lives.{answer, granted_after, if_granted, after}
use Rattle.ledger.specs.Stock.{exchange, keeps, another_leads, sell_exchange, sell_crossings, sell_after, source_set, buys_director, bought_size, purchase, overtakes, floats, float_money, float_crossing, buy_crossings, buy_after}
use Rattle.ledger.specs.declared.books.Books.{Books}
use Rattle.ledger.specs.declared.call.Call.TheVariants.{Sell, Buy}
use Rattle.ledger.proofs.Crossed.{crossed_append}
use Rattle.promises.specs.CallsLeave.{SaleDirects, PurchaseDirects}
use Rattle.promises.proofs.Exchanges.{exchange_swaps}
use Rattle.promises.proofs.Led.{Led, at_least_two, same_seat}
use Rattle.promises.proofs.LedPurchases.{MayBuy, may_buy_then, first_moves, first_sized, bought, rows_after}
use Rattle.promises.proofs.LedSales.{MaySell, may_sell, rest_moves, same_papers_row, two_at_least}
use Rattle.promises.proofs.Seats.{largest_other_in, largest_other_other, director_holds, director_found}
use Rattle.promises.proofs.Sound.{Sound, crossings_sound}
use Rattle.promises.proofs.Tenths.{Handed, tens, heads, players_kept}

-- by who holds the director's certificate
director_same : (s t : Books) (company : ℕ) → t.players ≡ s.players → ((p : ℕ) → heads t company p ≡ heads s company p) → director t company ≡ director s company
director_same s t company seats same = from_same 1 t.players ∙ ap (director_from s company 1) seats
  where
    from_same : (from n : ℕ) → director_from t company from n ≡ director_from s company from n
    from_same from zero = refl
    from_same from (suc n) =
        ap (λ (k : ℕ). cond (eqb k 1) (Some from) (director_from t company (suc from) n)) (same (from + 1))
        ∙ ap (λ (o : Option ℕ). cond (eqb (heads s company (from + 1)) 1) (Some from) o) (from_same (suc from) n)

director_is : (b : Book) (s : Books) → Sound b s → (company seat : ℕ) → 1 ≤ seat → seat ≤ s.players → heads s company (seat + 1) ≡ 1 → director s company ≡ Some seat
director_is b s ok company seat s1 sn own =
    let found = director_found s company seat (eq-eqb (heads s company (seat + 1)) 1 own) s1 sn in
    let holds = eqb-true (heads s company (found.0 + 1)) 1 (director_holds s company found.0 found.1).0 in
    found.1 ∙ ap Some (same_seat b s ok company found.0 seat holds own)

-- without the director's certificate among them, certificates that change hands leave it where it was
heads_kept : (t d u e : ℕ → ℕ) (i j x : ℕ) → Handed t d u e i j x 0 → (p : ℕ) → e p ≡ d p
heads_kept t d u e i j x h p =
    ⊎_elim (λ same. let a = h.gave_director in let b = ap e same in let c = ap d same in omega (arith, a, b, c))
    (λ ni.
    ⊎_elim (λ same. let a = h.took_director in let b = ap e same in let c = ap d same in omega (arith, a, b, c))
    (λ nj. h.others_director p ni nj)
    (cases_eq p j))
    (cases_eq p i)

-- of numbers
one_more : (x y : ℕ) → x < 2 → x ≡ y + 1 → x ≡ 1
one_more x y h e = omega arith

at_least_one : (x y z : ℕ) → x < 2 → y ≡ z + 1 → y ≤ x → x ≡ 1
at_least_one x y z h e k = omega arith

two_below : (x y : ℕ) → 2 ≤ x → x < y → 2 ≤ y
two_below x y h k = omega arith

head_of : (x y size n : ℕ) → x ≡ size → x ≡ y + 1 → size ≡ n + 1 → y ≡ n
head_of x y size n e f g = omega arith

then_less : (a c x z u v : ℕ) → a < c + z → x ≡ z → u ≡ a → v ≡ c + x → u < v
then_less a c x z u v h e f g = omega arith

not_less_then : (a c x z u v : ℕ) → c + z ≤ a → x ≡ z → u ≡ a → v ≡ c + x → u < v → ⊥
not_less_then a c x z u v h e f g less = omega arith

module _ (b : Book) (lawful : Lawful b) (s : Books) (ok : Sound b s) (led : Led b s) where
  few : b.bank ≤ 50000
  few = lawful.bank_range.1

  module _ (seat company tenths : ℕ) (may : MaySell b s seat company tenths) where
    abbrev new : ℕ
    new = largest_other s company seat

    high : company ≤ 8
    high = let a = may.in_book.1 in let c = lawful.companies_range.1 in omega arith

    abbrev rest : Books → List Crossing
    rest t = pays bank seat (tenths * price_of b s company) ∷ (hands company (seat_papers seat) pool (lowest_ordinary tenths (papers_at t company (seat_papers seat)).certificates) ∷ [])

    abbrev sold : Bool → Books
    sold test = all_crossed (all_crossed s (cond test (exchange s company new seat) [])) (rest (all_crossed s (cond test (exchange s company new seat) [])))

    -- the seller gives ordinary certificates
    rest_heads : (t : Books) → Sound b t → (p : ℕ) → heads (all_crossed t (rest t)) company p ≡ heads t company p
    rest_heads t sound p =
        let x = min tenths (sized (λ _. 1) 1 8 (papers_at t company (seat_papers seat)).certificates) in
        heads_kept (λ p. tens t company p) (λ p. heads t company p) (λ p. tens (all_crossed t (rest t)) company p) (λ p. heads (all_crossed t (rest t)) company p) (seat + 1) 1 x
        (rest_moves b lawful s ok led seat company tenths may t sound x refl) p

    exchanged : another_leads s seat company tenths ≡ true → heads (sold true) company (new + 1) ≡ 1
    exchanged e =
        let parts = and_parts (is_director s company seat) (ltb (keeps s seat company tenths) (seat_tenths s company new)) e in
        let own = eqb-true (heads s company (seat + 1)) 1 parts.0 in
        let unneeded = ⊎_elim (λ f. absurd (true≢false (sym parts.0 ∙ f))) (λ f. f) (and_cases (is_director s company seat) _ may.unneeded) in
        let two = two_at_least (keeps s seat company tenths) (seat_tenths s company new) parts.1 unneeded in
        let inside = largest_other_in s seat may.s1 may.sn company in
        let apart = largest_other_other s seat may.s1 may.sn company ok.seats.0 in
        let t = all_crossed s (exchange s company new seat) in
        let swap = exchange_swaps b few s ok company new seat may.in_book.0 high apart inside.0 inside.1 may.s1 may.sn own two in
        rest_heads t (crossings_sound b few s ok (exchange s company new seat)) (new + 1)
        ∙ one_more (heads t company (new + 1)) (heads s company (new + 1)) (bit_below 0 (papers_at t company (new + 1)).certificates) swap.new_has

    whole : (test : Bool) → another_leads s seat company tenths ≡ test → all_crossed s (sell_crossings b s seat company tenths) ≡ sold test
    whole test e =
        let first = sell_exchange s seat company tenths in
        crossed_append s first (rest (all_crossed s first)) ∙ ap sold e

    noted : director (sell_after b s seat company tenths) company ≡ director (all_crossed s (sell_crossings b s seat company tenths)) company
    noted =
        let t = all_crossed s (sell_crossings b s seat company tenths) in
        director_same t (sell_after b s seat company tenths) company refl
        (λ p. ap (λ (row : List Papers). bit 0 (get_or row p no_papers).certificates) (same_papers_row t company _ refl company))

    all_sold : SaleDirects s (sell_after b s seat company tenths) seat company tenths
    all_sold =
        let xs = sell_crossings b s seat company tenths in
        let inside = largest_other_in s seat may.s1 may.sn company in
        record {
          another = λ e.
              noted
              ∙ director_is b (all_crossed s xs) (crossings_sound b few s ok xs) company new inside.0 (subst (λ (n : ℕ). new ≤ n) (sym (players_kept s xs)) inside.1)
              (subst (λ (t : Books). heads t company (new + 1) ≡ 1) (sym (whole true e)) (exchanged e));
          as_before = λ e.
              noted
              ∙ director_same s (all_crossed s xs) company (players_kept s xs)
              (λ p. ap (λ (t : Books). heads t company p) (whole false e) ∙ rest_heads s ok p);
        }

  pub sale_directs : (card seat company tenths : ℕ) → answer b s (Sell card seat company tenths) ≡ Ok tt → SaleDirects s (after b s (Sell card seat company tenths)) seat company tenths
  sale_directs card seat company tenths e =
      let c = Sell card seat company tenths in
      subst (λ a. SaleDirects s (if_granted a (granted_after b s c) s) seat company tenths) (sym e)
      (all_sold seat company tenths (may_sell b s card seat company tenths e))

  module _ (seat company source space : ℕ) (may : MayBuy b s seat company source) where
    abbrev xs : List Crossing
    xs = buy_crossings b s seat company source space

    abbrev with_it : Books
    with_it = all_crossed s (purchase b s seat company source space)

    there : Sound b with_it
    there = crossings_sound b few s ok (purchase b s seat company source space)

    in_range : company ≤ 8
    in_range = let a = may.in_book.1 in let c = lawful.companies_range.1 in omega arith

    abbrev found : ℕ
    found = lowest_one (source_set s company source)

    abbrev Move : ℕ → Type 0
    Move y = Handed (λ p. tens s company p) (λ p. heads s company p) (λ p. tens with_it company p) (λ p. heads with_it company p) source (seat + 1) (sized size 0 9 found) y

    first_moved : (y : ℕ) → bought_size s company source ≡ y + 1 → Move y
    first_moved y e =
        let sizes = first_sized b lawful s ok led seat company source space may in
        subst Move (head_of (sized size 0 9 found) (bit 0 found) (bought_size s company source) y sizes.tenths sizes.director e) (first_moves b lawful s ok led seat company source space may)

    is_buyer : heads (all_crossed s xs) company (seat + 1) ≡ 1 → director (all_crossed s xs) company ≡ Some seat
    is_buyer own = director_is b (all_crossed s xs) (crossings_sound b few s ok xs) company seat may.s1 (subst (λ (n : ℕ). seat ≤ n) (sym (players_kept s xs)) may.sn) own

    first_buyer : buys_director s company source ≡ true → director (all_crossed s xs) company ≡ Some seat
    first_buyer own =
        let h = first_moved 1 (cond-true (buys_director s company source) 2 1 own) in
        let kept = (bought b lawful s ok led seat company source space may).director in
        is_buyer (at_least_one (heads (all_crossed s xs) company (seat + 1)) (heads with_it company (seat + 1)) (heads s company (seat + 1)) (bit_below 0 (papers_at (all_crossed s xs) company (seat + 1)).certificates) h.took_director kept)

    abbrev second : Option ℕ → List Crossing
    second o = overtakes with_it seat company o

    -- the buyer, of another seat
    abbrev exceeds : ℕ → Bool
    exceeds old = not (eqb old seat) && ltb (seat_tenths with_it company old) (seat_tenths with_it company seat)

    paid : (u : Books) (test : Bool) (p : ℕ) → heads (all_crossed u (cond test (pays bank (treasury s company) (float_money b s company source space) ∷ []) [])) company p ≡ heads u company p
    paid u true p = refl
    paid u false p = refl

    all_bought : (p : ℕ) → heads (all_crossed s xs) company p ≡ heads (all_crossed with_it (second (director with_it company))) company p
    all_bought p =
        let first = purchase b s seat company source space in
        let third = float_crossing b s company source space in
        let next = second (director with_it company) in
        ap (λ (u : Books). heads u company p) (crossed_append s first (next ++ third) ∙ crossed_append with_it next third)
        ∙ paid (all_crossed with_it next) (floats b s company source) p

    module _ (no : buys_director s company source ≡ false) where
      first_heads : (p : ℕ) → heads with_it company p ≡ heads s company p
      first_heads =
          heads_kept (λ p. tens s company p) (λ p. heads s company p) (λ p. tens with_it company p) (λ p. heads with_it company p) source (seat + 1) (sized size 0 9 found)
          (first_moved 0 (cond-false (buys_director s company source) 2 1 no))

      still : director with_it company ≡ director s company
      still = director_same s with_it company (players_kept s (purchase b s seat company source space)) first_heads

      module _ (old : ℕ) (is : director s company ≡ Some old) (apart : old ≢ seat) where
        held : seat_tenths with_it company old ≡ seat_tenths s company old
        held =
            let o1 = (director_holds s company old is).1 in
            let two = may.two in
            (first_moves b lawful s ok led seat company source space may).others (old + 1) (λ k. omega arith) (λ k. apart (omega arith))

        got : seat_tenths with_it company seat ≡ seat_tenths s company seat + sized size 0 9 found
        got = (first_moves b lawful s ok led seat company source space may).took

        more : seat_tenths s company old < seat_tenths s company seat + bought_size s company source → seat_tenths with_it company old < seat_tenths with_it company seat
        more less =
            then_less (seat_tenths s company old) (seat_tenths s company seat) (sized size 0 9 found) (bought_size s company source) (seat_tenths with_it company old) (seat_tenths with_it company seat)
            less (first_sized b lawful s ok led seat company source space may).tenths held got

        overtaken : seat_tenths s company old < seat_tenths s company seat + bought_size s company source → heads (all_crossed with_it (second (Some old))) company (seat + 1) ≡ 1
        overtaken less =
            let d = director_holds with_it company old (still ∙ is) in
            let holds = eqb-true (heads with_it company (old + 1)) 1 d.0 in
            let has = two_below (tens with_it company (old + 1)) (tens with_it company (seat + 1)) (at_least_two (papers_at with_it company (old + 1)).certificates holds) (more less) in
            let u = all_crossed with_it (exchange with_it company seat old) in
            let swap = exchange_swaps b few with_it there company seat old may.in_book.0 in_range (λ same. apart (sym same)) may.s1 (subst (λ (n : ℕ). seat ≤ n) (sym (players_kept s (purchase b s seat company source space))) may.sn) d.1 d.2 holds has in
            let before : exceeds old ≡ true = and_from _ _ (not_from_false _ (ne_eqb old seat apart)) (lt-ltb (seat_tenths with_it company old) (seat_tenths with_it company seat) (more less)) in
            subst (λ (t : Bool). heads (all_crossed with_it (cond t (exchange with_it company seat old) [])) company (seat + 1) ≡ 1) (sym before)
            (one_more (heads u company (seat + 1)) (heads with_it company (seat + 1)) (bit_below 0 (papers_at u company (seat + 1)).certificates) swap.new_has)

      buyer_then : (old : ℕ) → director s company ≡ Some old → old ≢ seat → seat_tenths s company old < seat_tenths s company seat + bought_size s company source → director (all_crossed s xs) company ≡ Some seat
      buyer_then old is apart less =
          is_buyer (all_bought (seat + 1) ∙ subst (λ (o : Option ℕ). heads (all_crossed with_it (second o)) company (seat + 1) ≡ 1) (sym (still ∙ is)) (overtaken old is apart less))

      module _ (enough : (old : ℕ) → director s company ≡ Some old → old ≢ seat → seat_tenths s company seat + bought_size s company source ≤ seat_tenths s company old) where
        no_exchange : (o : Option ℕ) → director s company ≡ o → (p : ℕ) → heads (all_crossed with_it (second o)) company p ≡ heads with_it company p
        no_exchange None is p = refl
        no_exchange (Some old) is p = by_test (exceeds old) refl
          where
            by_test : (t : Bool) → exceeds old ≡ t → heads (all_crossed with_it (cond t (exchange with_it company seat old) [])) company p ≡ heads with_it company p
            by_test true yes_test =
                let parts = and_parts (not (eqb old seat)) (ltb (seat_tenths with_it company old) (seat_tenths with_it company seat)) yes_test in
                let apart = eqb-false old seat (not-true _ parts.0) in
                absurd (not_less_then (seat_tenths s company old) (seat_tenths s company seat) (sized size 0 9 found) (bought_size s company source) (seat_tenths with_it company old) (seat_tenths with_it company seat)
                (enough old is apart) (first_sized b lawful s ok led seat company source space may).tenths (held old is apart) (got old is apart)
                (ltb-true (seat_tenths with_it company old) (seat_tenths with_it company seat) parts.1))
            by_test false no_test = refl

        stays : director (all_crossed s xs) company ≡ director s company
        stays =
            director_same s (all_crossed s xs) company (players_kept s xs)
            (λ p. all_bought p ∙ (ap (λ (o : Option ℕ). heads (all_crossed with_it (second o)) company p) still ∙ (no_exchange (director s company) refl p ∙ first_heads p)))

    noted_then : director (buy_after b s seat company source space) company ≡ director (all_crossed s xs) company
    noted_then =
        director_same (all_crossed s xs) (buy_after b s seat company source space) company refl
        (λ p. ap (λ (row : List Papers). bit 0 (get_or row p no_papers).certificates) (rows_after b lawful s ok led seat company source space may company))

    all_directs : PurchaseDirects s (buy_after b s seat company source space) seat company source
    all_directs =
        record {
          first = λ own. noted_then ∙ first_buyer own;
          overtaken = λ old is apart less. noted_then ∙ ⊎_elim first_buyer (λ no. buyer_then no old is apart less) (cases_Bool (buys_director s company source));
          as_before = λ no enough. noted_then ∙ stays no enough;
        }

  pub purchase_directs : (card seat company source space : ℕ) → answer b s (Buy card seat company source space) ≡ Ok tt → PurchaseDirects s (after b s (Buy card seat company source space)) seat company source
  purchase_directs card seat company source space e =
      let c = Buy card seat company source space in
      subst (λ a. PurchaseDirects s (if_granted a (granted_after b s c) s) seat company source) (sym e)
      (all_directs seat company source space (may_buy_then b s card seat company source space e))
