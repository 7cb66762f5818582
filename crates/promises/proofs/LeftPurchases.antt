-- What a granted purchase leaves in the hands of cash and trains, and in the papers of the other companies.
use Rattle.std.proofs.Common.{◌≡◌, ℕ, zero, suc, ◌+◌, ◌≤◌, Bool, true, false, cond, not, ◌&&◌, eqb, ltb, leb, ◌≢◌, List, [], ◌∷◌, ◌++◌, Some, None, Ok, Option, sym, refl, ap, ◌∙◌, arith}
use Rattle.std.proofs.lemmas.Bool.{and_parts}
use Rattle.rulebook.specs.Book.{Book}
use Rattle.rulebook.specs.Lawful.{Lawful}
use Rattle.ledger.specs.Crossings.{Crossing, pays, all_crossed}
use Rattle.ledger.specs.Holdings.{bank, treasury, seat_papers, seat_tenths, company_of, director}
use Rattle.ledger.specs.Lives.{answer, crossings_of, after}
use Rattle.ledger.specs.Stock.{purchase, overtakes, float_crossing, floats, float_money, payee, cost, is_sold_funding, gone_then}
use Rattle.ledger.specs.declared.books.Books.{Books}
use Rattle.ledger.specs.declared.call.Call.TheVariants.{Buy}
use Rattle.promises.specs.Accounts.{HandOf, cash_hand, paper_hand, train_hand, receipts, gifts}
use Rattle.promises.specs.CallsLeave.{PurchaseLeaves, FloatLeaves}
use Rattle.promises.proofs.LedPurchases.{MayBuy, may_buy_then}
use Rattle.promises.proofs.LeftParts.{hit, miss, same, more, less, both, trains_same, treasury_no_bank}
use Rattle.promises.proofs.LeftPayouts.{receipts_append, gifts_append, sum_of}
use Rattle.promises.proofs.LeftSales.{off_company, one_none, ended, exchange_no_cash_comes, exchange_no_cash_goes, exchange_no_train_comes, exchange_no_train_goes, exchange_no_other_comes, exchange_no_other_goes}
use Rattle.promises.proofs.Standing.{Standing}

-- the exchange that a purchase brings moves papers of its company alone
module _ (t : Books) (seat company : ℕ) where
  abbrev ahead : ℕ → Bool
  ahead old = not (eqb old seat) && ltb (seat_tenths t company old) (seat_tenths t company seat)

  overtakes_no_cash_comes : (o : Option ℕ) (p tag : ℕ) → receipts (overtakes t seat company o) (cash_hand p) tag ≡ 0
  overtakes_no_cash_comes None p tag = refl
  overtakes_no_cash_comes (Some old) p tag = exchange_no_cash_comes t company seat old (ahead old) p tag

  overtakes_no_cash_goes : (o : Option ℕ) (p tag : ℕ) → gifts (overtakes t seat company o) (cash_hand p) tag ≡ 0
  overtakes_no_cash_goes None p tag = refl
  overtakes_no_cash_goes (Some old) p tag = exchange_no_cash_goes t company seat old (ahead old) p tag

  overtakes_no_train_comes : (o : Option ℕ) (p tag : ℕ) → receipts (overtakes t seat company o) (train_hand p) tag ≡ 0
  overtakes_no_train_comes None p tag = refl
  overtakes_no_train_comes (Some old) p tag = exchange_no_train_comes t company seat old (ahead old) p tag

  overtakes_no_train_goes : (o : Option ℕ) (p tag : ℕ) → gifts (overtakes t seat company o) (train_hand p) tag ≡ 0
  overtakes_no_train_goes None p tag = refl
  overtakes_no_train_goes (Some old) p tag = exchange_no_train_goes t company seat old (ahead old) p tag

  overtakes_no_other_comes : (o : Option ℕ) (other p tag : ℕ) → other ≢ company → receipts (overtakes t seat company o) (paper_hand other p) tag ≡ 0
  overtakes_no_other_comes None other p tag ne = refl
  overtakes_no_other_comes (Some old) other p tag ne = exchange_no_other_comes t company seat old (ahead old) other p tag ne

  overtakes_no_other_goes : (o : Option ℕ) (other p tag : ℕ) → other ≢ company → gifts (overtakes t seat company o) (paper_hand other p) tag ≡ 0
  overtakes_no_other_goes None other p tag ne = refl
  overtakes_no_other_goes (Some old) other p tag ne = exchange_no_other_goes t company seat old (ahead old) other p tag ne

three : (x z : ℕ) → x + (0 + z) ≡ x + z
three x z = omega arith

first_only : (m n : ℕ) → m ≡ n + 0 → m ≡ n
first_only m n e = omega arith

last_only : (m n : ℕ) → m ≡ 0 + n → m ≡ n
last_only m n e = omega arith

either_not : (t : Bool) (x y z : ℕ) → z ≢ x → z ≢ y → z ≢ cond t x y
either_not true x y z p q = p
either_not false x y z p q = q

-- nobody but the bank or the company is paid
payee_other : (b : Book) (s : Books) (company source seat : ℕ) → seat ≢ bank → seat ≢ treasury s company → seat ≢ payee b s company source
payee_other b s company zero seat p q = either_not ((company_of s company).floated && is_sold_funding b.funding) (treasury s company) bank seat q p
payee_other b s company (suc source) seat p q = p

-- the bank is paid until the company floats
unfloated : (t : Bool) → not t ≡ true → t ≡ false
unfloated true e = sym e
unfloated false e = refl

payee_bank : (b : Book) (s : Books) (company source : ℕ) → floats b s company source ≡ true → payee b s company source ≡ bank
payee_bank b s company zero e =
    ap (λ (t : Bool). cond (t && is_sold_funding b.funding) (treasury s company) bank)
    (unfloated (company_of s company).floated (and_parts (not (company_of s company).floated) (leb (b.float company) (gone_then s company zero)) e).0)
payee_bank b s company (suc source) e = refl

not_nought : (n : ℕ) → 1 ≤ n → n ≡ 0 → ⊥
not_nought n h k = omega arith

seated : (seat n company : ℕ) → seat ≤ n → 1 ≤ company → seat ≡ n + company → ⊥
seated seat n company h k e = omega arith

module _ (b : Book) (law : Lawful b) (s : Books) (ok : Standing b s) (card seat company source space : ℕ) (e : answer b s (Buy card seat company source space) ≡ Ok tt) where
  abbrev first : List Crossing
  first = purchase b s seat company source space

  abbrev t : Books
  t = all_crossed s (purchase b s seat company source space)

  abbrev then : List Crossing
  then = overtakes t seat company (director t company)

  may : MayBuy b s seat company source
  may = may_buy_then b s card seat company source space e

  no_bank : seat ≢ bank
  no_bank k = not_nought seat may.s1 k

  no_company : seat ≢ treasury s company
  no_company k = seated seat s.players company may.sn may.in_book.0 k

  module _ (fs : List Crossing) (float : float_crossing b s company source space ≡ fs) where
    got : (h : HandOf) (tag x z : ℕ) → receipts first h tag ≡ x → receipts then h tag ≡ 0 → receipts fs h tag ≡ z → receipts (crossings_of b s (Buy card seat company source space)) h tag ≡ x + z
    got h tag x z p q r =
        ap (λ zs. receipts (first ++ (then ++ zs)) h tag) float
        ∙ (receipts_append first (then ++ fs) h tag
        ∙ (sum_of (receipts first h tag) (receipts (then ++ fs) h tag) x (0 + z) p (receipts_append then fs h tag ∙ sum_of (receipts then h tag) (receipts fs h tag) 0 z q r) ∙ three x z))

    gave : (h : HandOf) (tag x z : ℕ) → gifts first h tag ≡ x → gifts then h tag ≡ 0 → gifts fs h tag ≡ z → gifts (crossings_of b s (Buy card seat company source space)) h tag ≡ x + z
    gave h tag x z p q r =
        ap (λ zs. gifts (first ++ (then ++ zs)) h tag) float
        ∙ (gifts_append first (then ++ fs) h tag
        ∙ (sum_of (gifts first h tag) (gifts (then ++ fs) h tag) x (0 + z) p (gifts_append then fs h tag ∙ sum_of (gifts then h tag) (gifts fs h tag) 0 z q r) ∙ three x z))

    cash_got : (place x z : ℕ) → cond (eqb place (payee b s company source)) (cost b s company source space) 0 ≡ x → receipts fs (cash_hand place) 0 ≡ z → receipts (crossings_of b s (Buy card seat company source space)) (cash_hand place) 0 ≡ x + z
    cash_got place x z p r = got (cash_hand place) 0 x z (ended _ x p) (overtakes_no_cash_comes t seat company (director t company) place 0) r

    cash_gave : (place x z : ℕ) → cond (eqb place seat) (cost b s company source space) 0 ≡ x → gifts fs (cash_hand place) 0 ≡ z → gifts (crossings_of b s (Buy card seat company source space)) (cash_hand place) 0 ≡ x + z
    cash_gave place x z p r = gave (cash_hand place) 0 x z (ended _ x p) (overtakes_no_cash_goes t seat company (director t company) place 0) r

    others_got : (other place tag : ℕ) → other ≢ company → receipts fs (paper_hand other place) tag ≡ 0 → receipts (crossings_of b s (Buy card seat company source space)) (paper_hand other place) tag ≡ 0
    others_got other place tag ne r =
        got (paper_hand other place) tag 0 0 (one_none _ (off_company other company _ (eqb place (seat_papers seat)) ne)) (overtakes_no_other_comes t seat company (director t company) other place tag ne) r

    others_gave : (other place tag : ℕ) → other ≢ company → gifts fs (paper_hand other place) tag ≡ 0 → gifts (crossings_of b s (Buy card seat company source space)) (paper_hand other place) tag ≡ 0
    others_gave other place tag ne r =
        gave (paper_hand other place) tag 0 0 (one_none _ (off_company other company _ (eqb place source) ne)) (overtakes_no_other_goes t seat company (director t company) other place tag ne) r

    trains_got : (place tag : ℕ) → receipts fs (train_hand place) tag ≡ 0 → receipts (crossings_of b s (Buy card seat company source space)) (train_hand place) tag ≡ 0
    trains_got place tag r = got (train_hand place) tag 0 0 refl (overtakes_no_train_comes t seat company (director t company) place tag) r

    trains_gave : (place tag : ℕ) → gifts fs (train_hand place) tag ≡ 0 → gifts (crossings_of b s (Buy card seat company source space)) (train_hand place) tag ≡ 0
    trains_gave place tag r = gave (train_hand place) tag 0 0 refl (overtakes_no_train_goes t seat company (director t company) place tag) r

  pub purchase_leaves : floats b s company source ≡ false → PurchaseLeaves s (after b s (Buy card seat company source space)) seat company (payee b s company source) (cost b s company source space)
  purchase_leaves stays =
      let c = Buy card seat company source space in
      let to = payee b s company source in
      let money = cost b s company source space in
      let float = ap (λ (t : Bool). cond t (pays bank (treasury s company) (float_money b s company source space) ∷ []) []) stays in
      let apart = payee_other b s company source seat no_bank no_company in
      record {
        buyer_pays =
            less b law s ok c e (cash_hand seat) tt 0 money
            (cash_got [] float seat 0 0 (miss seat to money apart) refl)
            (first_only _ money (cash_gave [] float seat money 0 (hit seat seat money refl) refl));
        payee_gets =
            more b law s ok c e (cash_hand to) tt 0 money
            (first_only _ money (cash_got [] float to money 0 (hit to to money refl) refl))
            (cash_gave [] float to 0 0 (miss to seat money (λ k. apart (sym k))) refl);
        other_cash =
            λ place ns np.
            same b law s ok c e (cash_hand place) tt 0
            (cash_got [] float place 0 0 (miss place to money np) refl)
            (cash_gave [] float place 0 0 (miss place seat money ns) refl);
        other_papers =
            λ other low high ne place tag.
            same b law s ok c e (paper_hand other place) (low, high) tag (others_got [] float other place tag ne refl) (others_gave [] float other place tag ne refl);
        same_trains = trains_same b law s ok c e (λ place tag. trains_got [] float place tag refl) (λ place tag. trains_gave [] float place tag refl);
      }

  pub float_leaves : floats b s company source ≡ true → FloatLeaves s (after b s (Buy card seat company source space)) seat company (cost b s company source space) (float_money b s company source space)
  float_leaves flies =
      let c = Buy card seat company source space in
      let to = payee b s company source in
      let money = cost b s company source space in
      let start = float_money b s company source space in
      let fs = pays bank (treasury s company) start ∷ [] in
      let float = ap (λ (t : Bool). cond t (pays bank (treasury s company) (float_money b s company source space) ∷ []) []) flies in
      let is_bank = payee_bank b s company source flies in
      let far = treasury_no_bank b law s ok company in
      let apart = payee_other b s company source seat no_bank no_company in
      record {
        buyer_pays =
            less b law s ok c e (cash_hand seat) tt 0 money
            (cash_got fs float seat 0 0 (miss seat to money apart) (ended _ 0 (miss seat (treasury s company) start no_company)))
            (first_only _ money (cash_gave fs float seat money 0 (hit seat seat money refl) (ended _ 0 (miss seat bank start no_bank))));
        bank_gets_and_pays =
            both b law s ok c e (cash_hand bank) tt 0 money start
            (first_only _ money (cash_got fs float bank money 0 (hit bank to money (sym is_bank)) (ended _ 0 (miss bank (treasury s company) start (λ k. far (sym k))))))
            (last_only _ start (cash_gave fs float bank 0 start (miss bank seat money (λ k. no_bank (sym k))) (ended _ start (hit bank bank start refl))));
        company_gets =
            more b law s ok c e (cash_hand (treasury s company)) tt 0 start
            (last_only _ start (cash_got fs float (treasury s company) 0 start (miss (treasury s company) to money (λ k. far (k ∙ is_bank))) (ended _ start (hit (treasury s company) (treasury s company) start refl))))
            (cash_gave fs float (treasury s company) 0 0 (miss (treasury s company) seat money (λ k. no_company (sym k))) (ended _ 0 (miss (treasury s company) bank start far)));
        other_cash =
            λ place ns nb nt.
            same b law s ok c e (cash_hand place) tt 0
            (cash_got fs float place 0 0 (miss place to money (λ k. nb (k ∙ is_bank))) (ended _ 0 (miss place (treasury s company) start nt)))
            (cash_gave fs float place 0 0 (miss place seat money ns) (ended _ 0 (miss place bank start nb)));
        other_papers =
            λ other low high ne place tag.
            same b law s ok c e (paper_hand other place) (low, high) tag (others_got fs float other place tag ne refl) (others_gave fs float other place tag ne refl);
        same_trains = trains_same b law s ok c e (λ place tag. trains_got fs float place tag refl) (λ place tag. trains_gave fs float place tag refl);
      }
