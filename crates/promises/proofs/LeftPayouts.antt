-- What a granted payout leaves.
use Rattle.std.proofs.Common.{◌≡◌, ℕ, zero, suc, ◌+◌, ◌*◌, ◌<◌, ◌≤◌, ◌≢◌, List, [], ◌∷◌, ◌++◌, Some, Ok, sym, refl, ap, ◌∙◌, subst, ⊎_elim, arith}
use Rattle.std.proofs.lemmas.Bool.{cases_eq}
use Rattle.rulebook.specs.Book.{Book}
use Rattle.rulebook.specs.Lawful.{Lawful, Between}
use Rattle.rulebook.specs.declared.split.Split.{Split}
use Rattle.ledger.specs.Answers.{on_operating_turn}
use Rattle.ledger.specs.Crossings.{Crossing, pays}
use Rattle.ledger.specs.Holdings.{bank, treasury, seat_tenths}
use Rattle.ledger.specs.Lives.{answer, crossings_of, after}
use Rattle.ledger.specs.Operating.{dividends, dividend_sum, company_share, payout_sum, payout_crossings}
use Rattle.ledger.specs.declared.books.Books.{Books}
use Rattle.ledger.specs.declared.call.Call.TheVariants.{Payout}
use Rattle.promises.specs.Accounts.{HandOf, cash_hand, paper_hand, train_hand, receipt, gift, receipts, gifts}
use Rattle.promises.specs.CallsLeave.{PayoutLeaves}
use Rattle.promises.proofs.Companies.{OneOf}
use Rattle.promises.proofs.Granted.{both_granted}
use Rattle.promises.proofs.LeftParts.{hit, miss, same, more, less, papers_same, trains_same, treasury_no_bank}
use Rattle.promises.proofs.Standing.{Standing}
use Rattle.promises.proofs.Turns.{operating_turn}

plus : (a b c : ℕ) → a ≡ b + c → (n : ℕ) → n + a ≡ n + b + c
plus a b c e n = omega arith

noughts : (n : ℕ) → n ≡ 0 + n
noughts n = omega arith

pub receipts_append : (xs ys : List Crossing) (h : HandOf) (tag : ℕ) → receipts (xs ++ ys) h tag ≡ receipts xs h tag + receipts ys h tag
receipts_append [] ys h tag = noughts (receipts ys h tag)
receipts_append (x ∷ xs) ys h tag = plus (receipts (xs ++ ys) h tag) (receipts xs h tag) (receipts ys h tag) (receipts_append xs ys h tag) (receipt x h tag)

pub gifts_append : (xs ys : List Crossing) (h : HandOf) (tag : ℕ) → gifts (xs ++ ys) h tag ≡ gifts xs h tag + gifts ys h tag
gifts_append [] ys h tag = noughts (gifts ys h tag)
gifts_append (x ∷ xs) ys h tag = plus (gifts (xs ++ ys) h tag) (gifts xs h tag) (gifts ys h tag) (gifts_append xs ys h tag) (gift x h tag)

pub company_on_turn : (b : Book) (s : Books) → Standing b s → (card company : ℕ) → on_operating_turn s card company ≡ Ok tt → Between 1 b.companies company
company_on_turn b s ok card company e = subst (OneOf b.companies) (operating_turn s card company e) ok.on_turn

pub sum_of : (a b x y : ℕ) → a ≡ x → b ≡ y → a + b ≡ x + y
sum_of a b x y e f = omega arith

nought_and : (a b y : ℕ) → a ≡ 0 → b ≡ y → a + b ≡ y
nought_and a b y e f = omega arith

and_nought : (a b y : ℕ) → a ≡ y → b ≡ 0 → a + b ≡ y
and_nought a b y e f = omega arith

module _ (s : Books) (company d : ℕ) where
  below_them : (n seat p : ℕ) → p < seat → receipts (dividends s company d seat n) (cash_hand p) 0 ≡ 0
  below_them zero seat p lt = refl
  below_them (suc n) seat p lt =
      nought_and _ (receipts (dividends s company d (suc seat) n) (cash_hand p) 0) 0 (miss p seat (d * seat_tenths s company seat) (λ e. omega arith)) (below_them n (suc seat) p (omega arith))

  above_them : (n seat p : ℕ) → seat + n ≤ p → receipts (dividends s company d seat n) (cash_hand p) 0 ≡ 0
  above_them zero seat p le = refl
  above_them (suc n) seat p le =
      nought_and _ (receipts (dividends s company d (suc seat) n) (cash_hand p) 0) 0 (miss p seat (d * seat_tenths s company seat) (λ e. omega arith)) (above_them n (suc seat) p (omega arith))

  among_them : (n seat p : ℕ) → seat ≤ p → p < seat + n → receipts (dividends s company d seat n) (cash_hand p) 0 ≡ d * seat_tenths s company p
  among_them zero seat p le lt = absurd (omega arith)
  among_them (suc n) seat p le lt =
      ⊎_elim
      (λ here.
      and_nought _ (receipts (dividends s company d (suc seat) n) (cash_hand p) 0) (d * seat_tenths s company p)
      (hit p seat (d * seat_tenths s company seat) here ∙ ap (λ n. d * seat_tenths s company n) (sym here))
      (below_them n (suc seat) p (omega arith)))
      (λ later.
      nought_and _ (receipts (dividends s company d (suc seat) n) (cash_hand p) 0) (d * seat_tenths s company p)
      (miss p seat (d * seat_tenths s company seat) later)
      (among_them n (suc seat) p (above seat p le later) (omega arith)))
      (cases_eq p seat)
    where
      above : (seat p : ℕ) → seat ≤ p → p ≢ seat → suc seat ≤ p
      above seat p le ne = omega arith

  bank_gives : (n seat : ℕ) → gifts (dividends s company d seat n) (cash_hand bank) 0 ≡ dividend_sum s company d seat n
  bank_gives zero seat = refl
  bank_gives (suc n) seat =
      sum_of _ (gifts (dividends s company d (suc seat) n) (cash_hand bank) 0) (d * seat_tenths s company seat) (dividend_sum s company d (suc seat) n)
      (hit bank bank (d * seat_tenths s company seat) refl) (bank_gives n (suc seat))

  others_keep : (n seat p : ℕ) → p ≢ bank → gifts (dividends s company d seat n) (cash_hand p) 0 ≡ 0
  others_keep zero seat p ne = refl
  others_keep (suc n) seat p ne =
      nought_and _ (gifts (dividends s company d (suc seat) n) (cash_hand p) 0) 0 (miss p bank (d * seat_tenths s company seat) ne) (others_keep n (suc seat) p ne)

  no_papers_come : (n seat c p tag : ℕ) → receipts (dividends s company d seat n) (paper_hand c p) tag ≡ 0
  no_papers_come zero seat c p tag = refl
  no_papers_come (suc n) seat c p tag = nought_and 0 _ 0 refl (no_papers_come n (suc seat) c p tag)

  no_papers_go : (n seat c p tag : ℕ) → gifts (dividends s company d seat n) (paper_hand c p) tag ≡ 0
  no_papers_go zero seat c p tag = refl
  no_papers_go (suc n) seat c p tag = nought_and 0 _ 0 refl (no_papers_go n (suc seat) c p tag)

  no_trains_come : (n seat p tag : ℕ) → receipts (dividends s company d seat n) (train_hand p) tag ≡ 0
  no_trains_come zero seat p tag = refl
  no_trains_come (suc n) seat p tag = nought_and 0 _ 0 refl (no_trains_come n (suc seat) p tag)

  no_trains_go : (n seat p tag : ℕ) → gifts (dividends s company d seat n) (train_hand p) tag ≡ 0
  no_trains_go zero seat p tag = refl
  no_trains_go (suc n) seat p tag = nought_and 0 _ 0 refl (no_trains_go n (suc seat) p tag)

module _ (b : Book) (law : Lawful b) (s : Books) (ok : Standing b s) (card company mode revenue : ℕ) (e : answer b s (Payout card company mode revenue) ≡ Ok tt) (split : Split) (f : b.split mode revenue ≡ Some split) where
  got : (h : HandOf) (tag x y : ℕ) → receipts (dividends s company split.dividend 1 s.players) h tag ≡ x → receipts (pays bank (treasury s company) (company_share s company split) ∷ []) h tag ≡ y
      → receipts (crossings_of b s (Payout card company mode revenue)) h tag ≡ x + y
  got h tag x y p q =
      ap (λ o. receipts (payout_crossings s company o) h tag) f
      ∙ (receipts_append (dividends s company split.dividend 1 s.players) (pays bank (treasury s company) (company_share s company split) ∷ []) h tag
      ∙ sum_of (receipts (dividends s company split.dividend 1 s.players) h tag) (receipts (pays bank (treasury s company) (company_share s company split) ∷ []) h tag) x y p q)

  gave : (h : HandOf) (tag x y : ℕ) → gifts (dividends s company split.dividend 1 s.players) h tag ≡ x → gifts (pays bank (treasury s company) (company_share s company split) ∷ []) h tag ≡ y
      → gifts (crossings_of b s (Payout card company mode revenue)) h tag ≡ x + y
  gave h tag x y p q =
      ap (λ o. gifts (payout_crossings s company o) h tag) f
      ∙ (gifts_append (dividends s company split.dividend 1 s.players) (pays bank (treasury s company) (company_share s company split) ∷ []) h tag
      ∙ sum_of (gifts (dividends s company split.dividend 1 s.players) h tag) (gifts (pays bank (treasury s company) (company_share s company split) ∷ []) h tag) x y p q)

  pub payout_leaves : PayoutLeaves s (after b s (Payout card company mode revenue)) company split
  payout_leaves =
      let c = Payout card company mode revenue in
      let n = s.players in
      let d = split.dividend in
      let share = company_share s company split in
      let there = company_on_turn b s ok card company (both_granted (on_operating_turn s card company) _ e).0 in
      let far = treasury_no_bank b law s ok company in
      record {
        seat_gets =
            λ seat low high.
            more b law s ok c e (cash_hand seat) tt 0 (d * seat_tenths s company seat)
            (got (cash_hand seat) 0 (d * seat_tenths s company seat) 0 (among_them s company d n 1 seat low (omega arith)) (and_nought _ 0 0 (miss seat (treasury s company) share (λ k. omega arith)) refl) ∙ none_more (d * seat_tenths s company seat))
            (gave (cash_hand seat) 0 0 0 (others_keep s company d n 1 seat (λ k. omega arith)) (and_nought _ 0 0 (miss seat bank share (λ k. omega arith)) refl));
        company_gets =
            more b law s ok c e (cash_hand (treasury s company)) tt 0 share
            (got (cash_hand (treasury s company)) 0 0 share (above_them s company d n 1 (treasury s company) (omega arith)) (and_nought _ 0 share (hit (treasury s company) (treasury s company) share refl) refl) ∙ sym (noughts share))
            (gave (cash_hand (treasury s company)) 0 0 0 (others_keep s company d n 1 (treasury s company) far) (and_nought _ 0 0 (miss (treasury s company) bank share far) refl));
        bank_pays =
            less b law s ok c e (cash_hand bank) tt 0 (payout_sum s company split)
            (got (cash_hand bank) 0 0 0 (below_them s company d n 1 bank (omega arith)) (and_nought _ 0 0 (miss bank (treasury s company) share (λ k. far (sym k))) refl))
            (gave (cash_hand bank) 0 (dividend_sum s company d 1 n) share (bank_gives s company d n 1) (and_nought _ 0 share (hit bank bank share refl) refl));
        other_cash =
            λ place high ne.
            same b law s ok c e (cash_hand place) tt 0
            (got (cash_hand place) 0 0 0 (above_them s company d n 1 place (omega arith)) (and_nought _ 0 0 (miss place (treasury s company) share ne) refl))
            (gave (cash_hand place) 0 0 0 (others_keep s company d n 1 place (λ k. omega arith)) (and_nought _ 0 0 (miss place bank share (λ k. omega arith)) refl));
        same_papers =
            papers_same b law s ok c e
            (λ other place tag. got (paper_hand other place) tag 0 0 (no_papers_come s company d n 1 other place tag) refl)
            (λ other place tag. gave (paper_hand other place) tag 0 0 (no_papers_go s company d n 1 other place tag) refl);
        same_trains =
            trains_same b law s ok c e
            (λ place tag. got (train_hand place) tag 0 0 (no_trains_come s company d n 1 place tag) refl)
            (λ place tag. gave (train_hand place) tag 0 0 (no_trains_go s company d n 1 place tag) refl);
      }
    where
      none_more : (n : ℕ) → n + 0 ≡ n
      none_more n = omega arith
