-- What a granted sale leaves in the hands of cash and trains, and in the papers of the other companies.
use Rattle.std.proofs.Common.{◌≡◌, ℕ, ◌+◌, ◌*◌, ◌≤◌, Bool, true, false, cond, ◌&&◌, eqb, ◌≢◌, List, [], ◌∷◌, Ok, sym, refl, ap, ◌∙◌, arith}
use Rattle.std.proofs.lemmas.Bool.{ne_eqb}
use Rattle.rulebook.specs.Book.{Book}
use Rattle.rulebook.specs.Lawful.{Lawful}
use Rattle.ledger.specs.Answers.{on_stock_turn}
use Rattle.ledger.specs.Certificates.{lowest_ordinary}
use Rattle.ledger.specs.Crossings.{Crossing, pays, hands, all_crossed}
use Rattle.ledger.specs.Holdings.{bank, pool, seat_papers, papers_at, largest_other, price_of}
use Rattle.ledger.specs.Lives.{answer, crossings_of, after}
use Rattle.ledger.specs.Stock.{exchange, another_leads, sell_exchange}
use Rattle.ledger.specs.declared.books.Books.{Books}
use Rattle.ledger.specs.declared.call.Call.TheVariants.{Sell}
use Rattle.promises.specs.Accounts.{HandOf, cash_hand, paper_hand, train_hand, receipts, gifts}
use Rattle.promises.specs.CallsLeave.{SaleLeaves}
use Rattle.promises.proofs.Granted.{both_granted}
use Rattle.promises.proofs.LeftParts.{hit, miss, same, more, less, trains_same}
use Rattle.promises.proofs.LeftPayouts.{receipts_append, gifts_append, sum_of}
use Rattle.promises.proofs.Standing.{Standing}
use Rattle.promises.proofs.Turns.{stock_turn}

pub off_company : (other company n : ℕ) (t : Bool) → other ≢ company → cond (eqb other company && t) n 0 ≡ 0
off_company other company n t ne = ap (λ (u : Bool). cond (u && t) n 0) (ne_eqb other company ne)

two_none : (m n : ℕ) → m ≡ 0 → n ≡ 0 → m + (n + 0) ≡ 0
two_none m n e f = omega arith

pub one_none : (m : ℕ) → m ≡ 0 → 0 + (m + 0) ≡ 0
one_none m e = omega arith

pub ended : (m n : ℕ) → m ≡ n → m + 0 ≡ n
ended m n e = omega arith

pub none_and : (m n : ℕ) → m ≡ 0 + n → m ≡ n
none_and m n e = omega arith

-- an exchange moves papers of its company alone
module _ (s : Books) (company new old : ℕ) where
  pub exchange_no_cash_comes : (t : Bool) (p tag : ℕ) → receipts (cond t (exchange s company new old) []) (cash_hand p) tag ≡ 0
  exchange_no_cash_comes true p tag = refl
  exchange_no_cash_comes false p tag = refl

  pub exchange_no_cash_goes : (t : Bool) (p tag : ℕ) → gifts (cond t (exchange s company new old) []) (cash_hand p) tag ≡ 0
  exchange_no_cash_goes true p tag = refl
  exchange_no_cash_goes false p tag = refl

  pub exchange_no_train_comes : (t : Bool) (p tag : ℕ) → receipts (cond t (exchange s company new old) []) (train_hand p) tag ≡ 0
  exchange_no_train_comes true p tag = refl
  exchange_no_train_comes false p tag = refl

  pub exchange_no_train_goes : (t : Bool) (p tag : ℕ) → gifts (cond t (exchange s company new old) []) (train_hand p) tag ≡ 0
  exchange_no_train_goes true p tag = refl
  exchange_no_train_goes false p tag = refl

  pub exchange_no_other_comes : (t : Bool) (other p tag : ℕ) → other ≢ company → receipts (cond t (exchange s company new old) []) (paper_hand other p) tag ≡ 0
  exchange_no_other_comes true other p tag ne = two_none _ _ (off_company other company _ (eqb p (seat_papers old)) ne) (off_company other company _ (eqb p (seat_papers new)) ne)
  exchange_no_other_comes false other p tag ne = refl

  pub exchange_no_other_goes : (t : Bool) (other p tag : ℕ) → other ≢ company → gifts (cond t (exchange s company new old) []) (paper_hand other p) tag ≡ 0
  exchange_no_other_goes true other p tag ne = two_none _ _ (off_company other company _ (eqb p (seat_papers new)) ne) (off_company other company _ (eqb p (seat_papers old)) ne)
  exchange_no_other_goes false other p tag ne = refl

module _ (b : Book) (law : Lawful b) (s : Books) (ok : Standing b s) (card seat company tenths : ℕ) (e : answer b s (Sell card seat company tenths) ≡ Ok tt) where
  abbrev rest : List Crossing
  rest =
      pays bank seat (tenths * price_of b s company)
      ∷ (hands company (seat_papers seat) pool (lowest_ordinary tenths (papers_at (all_crossed s (sell_exchange s seat company tenths)) company (seat_papers seat)).certificates) ∷ [])

  got : (h : HandOf) (tag x y : ℕ) → receipts (sell_exchange s seat company tenths) h tag ≡ x → receipts rest h tag ≡ y → receipts (crossings_of b s (Sell card seat company tenths)) h tag ≡ x + y
  got h tag x y p q = receipts_append (sell_exchange s seat company tenths) rest h tag ∙ sum_of (receipts (sell_exchange s seat company tenths) h tag) (receipts rest h tag) x y p q

  gave : (h : HandOf) (tag x y : ℕ) → gifts (sell_exchange s seat company tenths) h tag ≡ x → gifts rest h tag ≡ y → gifts (crossings_of b s (Sell card seat company tenths)) h tag ≡ x + y
  gave h tag x y p q = gifts_append (sell_exchange s seat company tenths) rest h tag ∙ sum_of (gifts (sell_exchange s seat company tenths) h tag) (gifts rest h tag) x y p q

  pub sale_leaves : SaleLeaves s (after b s (Sell card seat company tenths)) seat company (tenths * price_of b s company)
  sale_leaves =
      let c = Sell card seat company tenths in
      let money = tenths * price_of b s company in
      let lead = another_leads s seat company tenths in
      let big = largest_other s company seat in
      let q = stock_turn s card seat (both_granted (on_stock_turn s card seat) _ e).0 in
      let no_bank : seat ≢ bank = λ k. not_nought seat q.0 k in
      record {
        seller_gets =
            more b law s ok c e (cash_hand seat) tt 0 money
            (none_and _ money (got (cash_hand seat) 0 0 money (exchange_no_cash_comes s company big seat lead seat 0) (ended _ money (hit seat seat money refl))))
            (gave (cash_hand seat) 0 0 0 (exchange_no_cash_goes s company big seat lead seat 0) (ended _ 0 (miss seat bank money no_bank)));
        bank_pays =
            less b law s ok c e (cash_hand bank) tt 0 money
            (got (cash_hand bank) 0 0 0 (exchange_no_cash_comes s company big seat lead bank 0) (ended _ 0 (miss bank seat money (λ k. no_bank (sym k)))))
            (none_and _ money (gave (cash_hand bank) 0 0 money (exchange_no_cash_goes s company big seat lead bank 0) (ended _ money (hit bank bank money refl))));
        other_cash =
            λ place nb ns.
            same b law s ok c e (cash_hand place) tt 0
            (got (cash_hand place) 0 0 0 (exchange_no_cash_comes s company big seat lead place 0) (ended _ 0 (miss place seat money ns)))
            (gave (cash_hand place) 0 0 0 (exchange_no_cash_goes s company big seat lead place 0) (ended _ 0 (miss place bank money nb)));
        other_papers =
            λ other low high ne place tag.
            same b law s ok c e (paper_hand other place) (low, high) tag
            (got (paper_hand other place) tag 0 0 (exchange_no_other_comes s company big seat lead other place tag ne) (one_none _ (off_company other company _ (eqb place pool) ne)))
            (gave (paper_hand other place) tag 0 0 (exchange_no_other_goes s company big seat lead other place tag ne) (one_none _ (off_company other company _ (eqb place (seat_papers seat)) ne)));
        same_trains =
            trains_same b law s ok c e
            (λ place tag. got (train_hand place) tag 0 0 (exchange_no_train_comes s company big seat lead place tag) refl)
            (λ place tag. gave (train_hand place) tag 0 0 (exchange_no_train_goes s company big seat lead place tag) refl);
      }
    where
      not_nought : (n : ℕ) → 1 ≤ n → n ≡ 0 → ⊥
      not_nought n h k = omega arith
