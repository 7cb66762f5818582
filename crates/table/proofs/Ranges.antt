-- Every call keeps the ranges of the books.
use Rattle.std.proofs.Common.{◌≡◌, ℕ, zero, suc, ◌+◌, ◌≤◌, false, ltb, Some, None, Ok, Err, Option, sym, refl, ap, ◌∙◌, subst, arith}
use Rattle.std.proofs.lemmas.Bool.{cond_both}
use Rattle.rulebook.specs.Book.{Book}
use Rattle.rulebook.specs.Lawful.{Lawful}
use Rattle.ledger.specs.Answers.{Answer, granted}
use Rattle.ledger.specs.Crossings.{all_crossed}
use Rattle.ledger.specs.Holdings.{waiting, better, next_of, next_company, price_of}
use Rattle.ledger.specs.Lives.{answer, granted_after, if_granted, after, crossings_of}
use Rattle.ledger.specs.Operating.{noted_served}
use Rattle.ledger.specs.Stock.{with_round, closed_stock}
use Rattle.ledger.specs.declared.books.Books.{Books}
use Rattle.ledger.specs.declared.books.Operating.{Operating}
use Rattle.ledger.specs.declared.call.Call.{Call}
use Rattle.ledger.specs.declared.call.Call.TheVariants.{Sell, Buy, End, Close, Bill, Payout, Train, Done, Reopen}
use Rattle.ledger.proofs.Crossed.{all_same_players, all_same_round, all_same_operating}
use Rattle.table.specs.Bounds.{Bounded}
use Rattle.table.proofs.Granted.{close_room, reopen_room}

-- the company chosen is one of those looked at
abbrev Within : ℕ → Option ℕ → Type 0
Within n o = (company : ℕ) → o ≡ Some company → company ≤ n

none_within : (n : ℕ) → Within n None
none_within n company e = let z : ◌≡◌ {A = ℕ} 0 1 = cc in absurd (omega arith)

some_within : (n company : ℕ) → company ≤ n → Within n (Some company)
some_within n company le other e = let f : company ≡ other = cc in omega arith

better_within : (b : Book) (s : Books) (n : ℕ) (o : Option ℕ) → Within n o → Within (suc n) (better b s o (suc n))
better_within b s n None all = some_within (suc n) (suc n) (omega arith)
better_within b s n (Some best) all =
    let le = all best refl in
    cond_both (ltb (price_of b s best) (price_of b s (suc n))) (Some (suc n)) (Some best) (Within (suc n)) (λ _. some_within (suc n) (suc n) (omega arith)) (λ _. some_within (suc n) best (omega arith))

next_within : (b : Book) (s : Books) (n : ℕ) → Within n (next_of b s n)
next_within b s zero = none_within zero
next_within b s (suc n) =
    let before = next_within b s n in
    cond_both (waiting s (suc n)) (better b s (next_of b s n) (suc n)) (next_of b s n) (Within (suc n)) (λ _. better_within b s n (next_of b s n) before) (λ _ company e. let le = before company e in omega arith)

module _ (b : Book) (law : Lawful b) where
  chosen : (s : Books) (company : ℕ) → next_company b s ≡ Some company → company ≤ 8
  chosen s company e = let le = next_within b s b.companies company e in let most = law.companies_range.1 in omega arith

  module _ (s : Books) (ok : Bounded s) where
    same_ranges : (t : Books) → t.players ≡ s.players → t.round ≡ s.round → t.operating.company ≡ s.operating.company → Bounded t
    same_ranges t p r o =
        record {
          seated = let most = ok.seated in omega arith;
          counted = let most = ok.counted in omega arith;
          numbered = λ company e. ok.numbered company (sym o ∙ e);
        }

    -- crossings change nothing of it
    only_crossed : (c : Call) (t : Books) → let u = all_crossed s (crossings_of b s c) in t.players ≡ u.players → t.round ≡ u.round → t.operating.company ≡ u.operating.company → Bounded t
    only_crossed c t p r o =
        let xs = crossings_of b s c in
        same_ranges t (p ∙ all_same_players s xs) (r ∙ all_same_round s xs) (o ∙ ap (λ (k : Operating). k.company) (all_same_operating s xs))

    granted_ranges : (c : Call) → answer b s c ≡ granted → Bounded (granted_after b s c)
    granted_ranges (Sell card seat company tenths) e = only_crossed (Sell card seat company tenths) _ refl refl refl
    granted_ranges (Buy card seat company source par) e = only_crossed (Buy card seat company source par) _ refl refl refl
    granted_ranges (End card seat) e = same_ranges _ refl refl refl
    granted_ranges (Close card) e =
        let room = (close_room s ok card e).2 in
        record { seated = ok.seated; counted = room; numbered = chosen (with_round s (s.round + 1) (closed_stock s) (record { company = None; paid = false })) }
    granted_ranges (Bill card company amount) e = only_crossed (Bill card company amount) _ refl refl refl
    granted_ranges (Payout card company mode revenue) e = only_crossed (Payout card company mode revenue) _ refl refl refl
    granted_ranges (Train card company kind) e = only_crossed (Train card company kind) _ refl refl refl
    granted_ranges (Done card company) e = record { seated = ok.seated; counted = ok.counted; numbered = chosen (noted_served s company) }
    granted_ranges (Reopen card) e =
        let room = (reopen_room s ok card e).2 in
        record { seated = ok.seated; counted = room; numbered = ok.numbered }

    either_way : (a : Answer) (t : Books) → (a ≡ granted → Bounded t) → Bounded (if_granted a t s)
    either_way (Ok x) t made = made refl
    either_way (Err why) t made = ok

    stays_bounded : (c : Call) → Bounded (after b s c)
    stays_bounded c = either_way (answer b s c) (granted_after b s c) (granted_ranges c)

    pub kept_bounded : (c : Call) (t : Books) → t ≡ after b s c → Bounded t
    kept_bounded c t e = subst Bounded (sym e) (stays_bounded c)
