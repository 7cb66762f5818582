-- What each kind of call leaves, by the crossings of the call.
use Rattle.std.proofs.Common.{◌≡◌, ℕ, ◌+◌, cond, eqb, ◌≢◌, [], ℤ, pos, ◌+ℤ◌, ◌-ℤ◌, Ok, sym, refl, ap, ◌∙◌, arith}
use Rattle.std.proofs.lemmas.Int.{ints}
use Rattle.std.proofs.lemmas.Bool.{eq-eqb, ne_eqb}
use Rattle.rulebook.specs.Book.{Book}
use Rattle.rulebook.specs.Lawful.{Lawful}
use Rattle.ledger.specs.Holdings.{bank, treasury, trains_held}
use Rattle.ledger.specs.Lives.{answer, crossings_of, granted_after, if_granted, after}
use Rattle.ledger.specs.declared.books.Books.{Books}
use Rattle.ledger.specs.declared.call.Call.{Call}
use Rattle.ledger.specs.declared.call.Call.TheVariants.{End, Close, Bill, Done, Reopen}
use Rattle.promises.specs.Accounts.{HandOf, cash_hand, paper_hand, train_hand, OfATable, tally_of, receipts, gifts}
use Rattle.promises.specs.CallsLeave.{NothingMoves, BillLeaves, AllPapersSame, AllTrainsSame}
use Rattle.promises.proofs.Calls.{call_carried}
use Rattle.promises.proofs.Ledgers.{all_moved, hands_by_crossings}
use Rattle.promises.proofs.Places.{call_within}
use Rattle.promises.proofs.Standing.{Standing}

pub hit : (p q m : ℕ) → p ≡ q → cond (eqb p q) m 0 ≡ m
hit p q m e = ap (λ t. cond t m 0) (eq-eqb p q e)

pub miss : (p q m : ℕ) → p ≢ q → cond (eqb p q) m 0 ≡ 0
miss p q m ne = ap (λ t. cond t m 0) (ne_eqb p q ne)

same_then : (a c : ℤ) (r g : ℕ) → c ≡ a +ℤ pos r -ℤ pos g → r ≡ 0 → g ≡ 0 → c ≡ a
same_then a c r g e p q = omega (arith, ints)

more_then : (a c : ℤ) (r g n : ℕ) → c ≡ a +ℤ pos r -ℤ pos g → r ≡ n → g ≡ 0 → c ≡ a +ℤ pos n
more_then a c r g n e p q = omega (arith, ints)

less_then : (a c : ℤ) (r g n : ℕ) → c ≡ a +ℤ pos r -ℤ pos g → r ≡ 0 → g ≡ n → c ≡ a -ℤ pos n
less_then a c r g n e p q = omega (arith, ints)

both_then : (a c : ℤ) (r g m n : ℕ) → c ≡ a +ℤ pos r -ℤ pos g → r ≡ m → g ≡ n → c ≡ a +ℤ pos m -ℤ pos n
both_then a c r g m n e p q = omega (arith, ints)

pub same_count : (a c : ℕ) → pos c ≡ pos a → c ≡ a
same_count a c e = omega (arith, ints)

pub more_count : (a c n : ℕ) → pos c ≡ pos a +ℤ pos n → c ≡ a + n
more_count a c n e = omega (arith, ints)

pub less_count : (a c n : ℕ) → pos c ≡ pos a -ℤ pos n → c + n ≡ a
less_count a c n e = omega (arith, ints)

module _ (b : Book) (law : Lawful b) (s : Books) (ok : Standing b s) (c : Call) (e : answer b s c ≡ Ok tt) where
  pub accounts : (h : HandOf) → OfATable h → (tag : ℕ) → tally_of (after b s c) h tag ≡ tally_of s h tag +ℤ pos (receipts (crossings_of b s c) h tag) -ℤ pos (gifts (crossings_of b s c) h tag)
  accounts h of tag =
      ap (λ a. tally_of (if_granted a (granted_after b s c) s) h tag) e
      ∙ (hands_by_crossings b s c h tag
      ∙ all_moved b law.bank_range.1 h of tag s ok.sound (crossings_of b s c) (call_carried b law s ok.sound ok.on_turn c e) (call_within b law s c e))

  pub same : (h : HandOf) → OfATable h → (tag : ℕ) → receipts (crossings_of b s c) h tag ≡ 0 → gifts (crossings_of b s c) h tag ≡ 0 → tally_of (after b s c) h tag ≡ tally_of s h tag
  same h of tag p q = same_then (tally_of s h tag) (tally_of (after b s c) h tag) (receipts (crossings_of b s c) h tag) (gifts (crossings_of b s c) h tag) (accounts h of tag) p q

  pub more : (h : HandOf) → OfATable h → (tag n : ℕ) → receipts (crossings_of b s c) h tag ≡ n → gifts (crossings_of b s c) h tag ≡ 0 → tally_of (after b s c) h tag ≡ tally_of s h tag +ℤ pos n
  more h of tag n p q = more_then (tally_of s h tag) (tally_of (after b s c) h tag) (receipts (crossings_of b s c) h tag) (gifts (crossings_of b s c) h tag) n (accounts h of tag) p q

  pub less : (h : HandOf) → OfATable h → (tag n : ℕ) → receipts (crossings_of b s c) h tag ≡ 0 → gifts (crossings_of b s c) h tag ≡ n → tally_of (after b s c) h tag ≡ tally_of s h tag -ℤ pos n
  less h of tag n p q = less_then (tally_of s h tag) (tally_of (after b s c) h tag) (receipts (crossings_of b s c) h tag) (gifts (crossings_of b s c) h tag) n (accounts h of tag) p q

  pub both : (h : HandOf) → OfATable h → (tag m n : ℕ) → receipts (crossings_of b s c) h tag ≡ m → gifts (crossings_of b s c) h tag ≡ n → tally_of (after b s c) h tag ≡ tally_of s h tag +ℤ pos m -ℤ pos n
  both h of tag m n p q = both_then (tally_of s h tag) (tally_of (after b s c) h tag) (receipts (crossings_of b s c) h tag) (gifts (crossings_of b s c) h tag) m n (accounts h of tag) p q

  pub papers_same : ((company place tag : ℕ) → receipts (crossings_of b s c) (paper_hand company place) tag ≡ 0) → ((company place tag : ℕ) → gifts (crossings_of b s c) (paper_hand company place) tag ≡ 0) → AllPapersSame s (after b s c)
  papers_same p q company low high place number = same (paper_hand company place) (low, high) number (p company place number) (q company place number)

  pub trains_same : ((place tag : ℕ) → receipts (crossings_of b s c) (train_hand place) tag ≡ 0) → ((place tag : ℕ) → gifts (crossings_of b s c) (train_hand place) tag ≡ 0) → AllTrainsSame s (after b s c)
  trains_same p q place kind = same_count (trains_held s place kind) (trains_held (after b s c) place kind) (same (train_hand place) tt kind (p place kind) (q place kind))

module _ (b : Book) (law : Lawful b) (s : Books) (ok : Standing b s) where
  nothing_crosses : (c : Call) → answer b s c ≡ Ok tt → crossings_of b s c ≡ [] → NothingMoves s (after b s c)
  nothing_crosses c e none =
      record {
        same_cash = λ place. same b law s ok c e (cash_hand place) tt 0 (ap (λ xs. receipts xs (cash_hand place) 0) none) (ap (λ xs. gifts xs (cash_hand place) 0) none);
        same_papers = papers_same b law s ok c e (λ company place tag. ap (λ xs. receipts xs (paper_hand company place) tag) none) (λ company place tag. ap (λ xs. gifts xs (paper_hand company place) tag) none);
        same_trains = trains_same b law s ok c e (λ place tag. ap (λ xs. receipts xs (train_hand place) tag) none) (λ place tag. ap (λ xs. gifts xs (train_hand place) tag) none);
      }

  pub end_leaves : (card seat : ℕ) → answer b s (End card seat) ≡ Ok tt → NothingMoves s (after b s (End card seat))
  end_leaves card seat e = nothing_crosses (End card seat) e refl

  pub close_leaves : (card : ℕ) → answer b s (Close card) ≡ Ok tt → NothingMoves s (after b s (Close card))
  close_leaves card e = nothing_crosses (Close card) e refl

  pub done_leaves : (card company : ℕ) → answer b s (Done card company) ≡ Ok tt → NothingMoves s (after b s (Done card company))
  done_leaves card company e = nothing_crosses (Done card company) e refl

  pub reopen_leaves : (card : ℕ) → answer b s (Reopen card) ≡ Ok tt → NothingMoves s (after b s (Reopen card))
  reopen_leaves card e = nothing_crosses (Reopen card) e refl

  pub treasury_no_bank : (company : ℕ) → treasury s company ≢ bank
  treasury_no_bank company e = let p = ok.sound.seats in omega arith

  pub bill_leaves : (card company amount : ℕ) → answer b s (Bill card company amount) ≡ Ok tt → BillLeaves s (after b s (Bill card company amount)) company amount
  bill_leaves card company amount e =
      let c = Bill card company amount in
      let far = treasury_no_bank company in
      record {
        company_pays = less b law s ok c e (cash_hand (treasury s company)) tt 0 amount (ap (λ n. n + 0) (miss (treasury s company) bank amount far)) (plus_none _ amount (hit (treasury s company) (treasury s company) amount refl));
        bank_gets = more b law s ok c e (cash_hand bank) tt 0 amount (plus_none _ amount (hit bank bank amount refl)) (ap (λ n. n + 0) (miss bank (treasury s company) amount (λ k. far (sym k))));
        other_cash = λ place nb nt. same b law s ok c e (cash_hand place) tt 0 (ap (λ n. n + 0) (miss place bank amount nb)) (ap (λ n. n + 0) (miss place (treasury s company) amount nt));
        same_papers = papers_same b law s ok c e (λ company place tag. refl) (λ company place tag. refl);
        same_trains = trains_same b law s ok c e (λ place tag. refl) (λ place tag. refl);
      }
    where
      plus_none : (m n : ℕ) → m ≡ n → m + 0 ≡ n
      plus_none m n e = omega arith
