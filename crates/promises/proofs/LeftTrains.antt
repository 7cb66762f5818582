-- What a granted purchase of a train leaves.
use Rattle.std.proofs.Common.{◌≡◌, ℕ, ◌+◌, ◌≤◌, Bool, true, false, cond, not, eqb, ◌≢◌, List, [], ◌∷◌, ◌++◌, ℤ, pos, ◌+ℤ◌, ◌-ℤ◌, Some, None, Ok, Option, sym, refl, ap, ◌∙◌, arith}
use lib.Signed.{lt_z}
use Rattle.std.proofs.lemmas.Int.{ints}
use Rattle.std.proofs.lemmas.Bool.{and_parts}
use Rattle.rulebook.specs.Book.{Book}
use Rattle.rulebook.specs.Lawful.{Lawful, Between}
use Rattle.ledger.specs.Answers.{on_operating_turn}
use Rattle.ledger.specs.Crossings.{Crossing, pays, moves}
use Rattle.ledger.specs.Holdings.{bank, treasury, stack, marks_at, trains_held, director, has_train}
use Rattle.ledger.specs.Lives.{answer, crossings_of, after}
use Rattle.ledger.specs.Operating.{help, needs_help, missing}
use Rattle.ledger.specs.declared.books.Books.{Books}
use Rattle.ledger.specs.declared.call.Call.TheVariants.{Train}
use Rattle.promises.specs.Accounts.{HandOf, cash_hand, paper_hand, train_hand, receipts, gifts}
use Rattle.promises.specs.CallsLeave.{TrainMoves, TrainAloneLeaves, TrainHelpedLeaves}
use Rattle.promises.proofs.Granted.{both_granted}
use Rattle.promises.proofs.LeftParts.{hit, miss, same, more, less, both, same_count, more_count, less_count, papers_same, treasury_no_bank}
use Rattle.promises.proofs.LeftPayouts.{receipts_append, gifts_append, sum_of, company_on_turn}
use Rattle.promises.proofs.Seats.{director_holds}
use Rattle.promises.proofs.Standing.{Standing}
use Rattle.promises.proofs.TrainSales.{lacks}

no_help : (s : Books) (company price : ℕ) → needs_help s company price ≡ false → (o : Option ℕ) → help s company price o ≡ []
no_help s company price e None = refl
no_help s company price e (Some seat) = ap (λ (t : Bool). cond t (pays seat (treasury s company) (missing s company price) ∷ []) []) e

with_help : (s : Books) (company price seat : ℕ) → needs_help s company price ≡ true → director s company ≡ Some seat → help s company price (director s company) ≡ pays seat (treasury s company) (missing s company price) ∷ []
with_help s company price seat e f = ap (help s company price) f ∙ ap (λ (t : Bool). cond t (pays seat (treasury s company) (missing s company price) ∷ []) []) e

ended : (m n : ℕ) → m ≡ n → m + 0 ≡ n
ended m n e = omega arith

after_none : (m n : ℕ) → m ≡ n → 0 + (m + 0) ≡ n
after_none m n e = omega arith

none_and : (m n : ℕ) → m ≡ 0 + n → m ≡ n
none_and m n e = omega arith

and_none : (m n : ℕ) → m ≡ n + 0 → m ≡ n
and_none m n e = omega arith

the_lack : (a c m : ℤ) (z price : ℕ) → c ≡ a -ℤ pos z → (m +ℤ pos z) ≡ pos price → c ≡ a -ℤ (pos price -ℤ m)
the_lack a c m z price e f = omega (arith, ints)

emptied : (c m : ℤ) (z price : ℕ) → c ≡ m +ℤ pos z -ℤ pos price → (m +ℤ pos z) ≡ pos price → c ≡ pos 0
emptied c m z price e f = omega (arith, ints)

module _ (b : Book) (law : Lawful b) (s : Books) (ok : Standing b s) (card company kind : ℕ) (e : answer b s (Train card company kind) ≡ Ok tt) where
  abbrev price : ℕ
  price = b.train_price kind

  abbrev paid : List Crossing
  paid = pays (treasury s company) bank (b.train_price kind) ∷ (moves stack company (record { kind = kind; count = 1 }) ∷ [])

  there : Between 1 b.companies company
  there = company_on_turn b s ok card company (both_granted (on_operating_turn s card company) _ e).0

  far : treasury s company ≢ bank
  far = treasury_no_bank b law s ok company

  module _ (xs : List Crossing) (first : help s company (b.train_price kind) (director s company) ≡ xs) where
    got : (h : HandOf) (tag x y : ℕ) → receipts xs h tag ≡ x → receipts paid h tag ≡ y → receipts (crossings_of b s (Train card company kind)) h tag ≡ x + y
    got h tag x y p q = ap (λ zs. receipts (zs ++ paid) h tag) first ∙ (receipts_append xs paid h tag ∙ sum_of (receipts xs h tag) (receipts paid h tag) x y p q)

    gave : (h : HandOf) (tag x y : ℕ) → gifts xs h tag ≡ x → gifts paid h tag ≡ y → gifts (crossings_of b s (Train card company kind)) h tag ≡ x + y
    gave h tag x y p q = ap (λ zs. gifts (zs ++ paid) h tag) first ∙ (gifts_append xs paid h tag ∙ sum_of (gifts xs h tag) (gifts paid h tag) x y p q)

    module _ (none_come : (place tag : ℕ) → receipts xs (train_hand place) tag ≡ 0) (none_go : (place tag : ℕ) → gifts xs (train_hand place) tag ≡ 0) where
      one_train : TrainMoves s (after b s (Train card company kind)) company kind
      one_train =
          let c = Train card company kind in
          let t = after b s (Train card company kind) in
          let apart : company ≢ stack = λ k. not_nought company there.0 k in
          record {
            company_gets =
                more_count (trains_held s company kind) (trains_held t company kind) 1
                (more b law s ok c e (train_hand company) tt kind 1
                (got (train_hand company) kind 0 1 (none_come company kind) (after_none _ 1 (hit company company (cond (eqb kind kind) 1 0) refl ∙ hit kind kind 1 refl)))
                (gave (train_hand company) kind 0 0 (none_go company kind) (after_none _ 0 (miss company stack (cond (eqb kind kind) 1 0) apart))));
            stack_gives =
                less_count (trains_held s stack kind) (trains_held t stack kind) 1
                (less b law s ok c e (train_hand stack) tt kind 1
                (got (train_hand stack) kind 0 0 (none_come stack kind) (after_none _ 0 (miss stack company (cond (eqb kind kind) 1 0) (λ k. apart (sym k)))))
                (gave (train_hand stack) kind 0 1 (none_go stack kind) (after_none _ 1 (hit stack stack (cond (eqb kind kind) 1 0) refl ∙ hit kind kind 1 refl))));
            other_kinds =
                λ place other ne.
                same_count (trains_held s place other) (trains_held t place other)
                (same b law s ok c e (train_hand place) tt other
                (got (train_hand place) other 0 0 (none_come place other) (after_none _ 0 (either_way (eqb place company) (cond (eqb other kind) 1 0) (miss other kind 1 ne))))
                (gave (train_hand place) other 0 0 (none_go place other) (after_none _ 0 (either_way (eqb place stack) (cond (eqb other kind) 1 0) (miss other kind 1 ne)))));
            other_hands =
                λ place other nc ns.
                same_count (trains_held s place other) (trains_held t place other)
                (same b law s ok c e (train_hand place) tt other
                (got (train_hand place) other 0 0 (none_come place other) (after_none _ 0 (miss place company (cond (eqb other kind) 1 0) nc)))
                (gave (train_hand place) other 0 0 (none_go place other) (after_none _ 0 (miss place stack (cond (eqb other kind) 1 0) ns))));
          }
        where
          not_nought : (n : ℕ) → 1 ≤ n → n ≡ 0 → ⊥
          not_nought n h k = omega arith

          either_way : (t : Bool) (n : ℕ) → n ≡ 0 → cond t n 0 ≡ 0
          either_way true n e = e
          either_way false n e = refl

  pub company_paid : help s company (b.train_price kind) (director s company) ≡ [] → marks_at (after b s (Train card company kind)) (treasury s company) ≡ marks_at s (treasury s company) -ℤ pos (b.train_price kind)
  company_paid first =
      less b law s ok (Train card company kind) e (cash_hand (treasury s company)) tt 0 (b.train_price kind)
      (got [] first (cash_hand (treasury s company)) 0 0 0 refl (ended _ 0 (miss (treasury s company) bank (b.train_price kind) far)))
      (none_and _ (b.train_price kind) (gave [] first (cash_hand (treasury s company)) 0 0 (b.train_price kind) refl (ended _ (b.train_price kind) (hit (treasury s company) (treasury s company) (b.train_price kind) refl))))

  pub train_alone_leaves : needs_help s company (b.train_price kind) ≡ false → TrainAloneLeaves s (after b s (Train card company kind)) company kind (b.train_price kind)
  train_alone_leaves alone =
      let c = Train card company kind in
      let first = no_help s company (b.train_price kind) alone (director s company) in
      record {
        company_pays = company_paid first;
        bank_gets =
            more b law s ok c e (cash_hand bank) tt 0 (b.train_price kind)
            (none_and _ (b.train_price kind) (got [] first (cash_hand bank) 0 0 (b.train_price kind) refl (ended _ (b.train_price kind) (hit bank bank (b.train_price kind) refl))))
            (gave [] first (cash_hand bank) 0 0 0 refl (ended _ 0 (miss bank (treasury s company) (b.train_price kind) (λ k. far (sym k)))));
        other_cash =
            λ place nb nt.
            same b law s ok c e (cash_hand place) tt 0
            (got [] first (cash_hand place) 0 0 0 refl (ended _ 0 (miss place bank (b.train_price kind) nb)))
            (gave [] first (cash_hand place) 0 0 0 refl (ended _ 0 (miss place (treasury s company) (b.train_price kind) nt)));
        same_papers =
            papers_same b law s ok c e
            (λ other place tag. got [] first (paper_hand other place) tag 0 0 refl refl)
            (λ other place tag. gave [] first (paper_hand other place) tag 0 0 refl refl);
        train_moves = one_train [] first (λ place tag. refl) (λ place tag. refl);
      }

  pub train_helped_leaves : needs_help s company (b.train_price kind) ≡ true → (seat : ℕ) → director s company ≡ Some seat → TrainHelpedLeaves s (after b s (Train card company kind)) company kind (b.train_price kind) seat
  train_helped_leaves needed seat found =
      let c = Train card company kind in
      let t = after b s (Train card company kind) in
      let gap = missing s company (b.train_price kind) in
      let H = pays seat (treasury s company) gap ∷ [] in
      let first = with_help s company (b.train_price kind) seat needed found in
      let short = and_parts (not (has_train s company)) (lt_z (marks_at s (treasury s company)) (pos (b.train_price kind))) needed in
      let filled = lacks (marks_at s (treasury s company)) (b.train_price kind) short.1 in
      let held = director_holds s company seat found in
      let no_bank : seat ≢ bank = λ k. not_nought seat held.1 k in
      let no_company : seat ≢ treasury s company = λ k. seated seat s.players company held.2 there.0 k in
      record {
        director_pays =
            the_lack (marks_at s seat) (marks_at t seat) (marks_at s (treasury s company)) gap (b.train_price kind)
            (less b law s ok c e (cash_hand seat) tt 0 gap
            (got H first (cash_hand seat) 0 0 0 (ended _ 0 (miss seat (treasury s company) gap no_company)) (ended _ 0 (miss seat bank (b.train_price kind) no_bank)))
            (and_none _ gap (gave H first (cash_hand seat) 0 gap 0 (ended _ gap (hit seat seat gap refl)) (ended _ 0 (miss seat (treasury s company) (b.train_price kind) no_company)))))
            filled;
        company_empty =
            emptied (marks_at t (treasury s company)) (marks_at s (treasury s company)) gap (b.train_price kind)
            (both b law s ok c e (cash_hand (treasury s company)) tt 0 gap (b.train_price kind)
            (and_none _ gap (got H first (cash_hand (treasury s company)) 0 gap 0 (ended _ gap (hit (treasury s company) (treasury s company) gap refl)) (ended _ 0 (miss (treasury s company) bank (b.train_price kind) far))))
            (none_and _ (b.train_price kind) (gave H first (cash_hand (treasury s company)) 0 0 (b.train_price kind) (ended _ 0 (miss (treasury s company) seat gap (λ k. no_company (sym k)))) (ended _ (b.train_price kind) (hit (treasury s company) (treasury s company) (b.train_price kind) refl)))))
            filled;
        bank_gets =
            more b law s ok c e (cash_hand bank) tt 0 (b.train_price kind)
            (none_and _ (b.train_price kind) (got H first (cash_hand bank) 0 0 (b.train_price kind) (ended _ 0 (miss bank (treasury s company) gap (λ k. far (sym k)))) (ended _ (b.train_price kind) (hit bank bank (b.train_price kind) refl))))
            (gave H first (cash_hand bank) 0 0 0 (ended _ 0 (miss bank seat gap (λ k. no_bank (sym k)))) (ended _ 0 (miss bank (treasury s company) (b.train_price kind) (λ k. far (sym k)))));
        other_cash =
            λ place nb nt nd.
            same b law s ok c e (cash_hand place) tt 0
            (got H first (cash_hand place) 0 0 0 (ended _ 0 (miss place (treasury s company) gap nt)) (ended _ 0 (miss place bank (b.train_price kind) nb)))
            (gave H first (cash_hand place) 0 0 0 (ended _ 0 (miss place seat gap nd)) (ended _ 0 (miss place (treasury s company) (b.train_price kind) nt)));
        same_papers =
            papers_same b law s ok c e
            (λ other place tag. got H first (paper_hand other place) tag 0 0 refl refl)
            (λ other place tag. gave H first (paper_hand other place) tag 0 0 refl refl);
        train_moves = one_train H first (λ place tag. refl) (λ place tag. refl);
      }
    where
      not_nought : (n : ℕ) → 1 ≤ n → n ≡ 0 → ⊥
      not_nought n h k = omega arith

      seated : (seat n company : ℕ) → seat ≤ n → 1 ≤ company → seat ≡ n + company → ⊥
      seated seat n company h k e = omega arith
