-- An exchange leaves every place its tenths, and the director's certificate goes to the new director.
use Rattle.std.proofs.Common.{◌≡◌, ℕ, ◌+◌, ◌<◌, ◌≤◌, min, ◌≢◌, ap, ◌∙◌, subst, ⊎_elim, arith}
use Rattle.std.proofs.lemmas.Bool.{cases_eq}
use Rattle.kinds.specs.Papers.{bit, sized, size}
use Rattle.rulebook.specs.Book.{Book}
use Rattle.ledger.specs.Certificates.{lowest_two}
use Rattle.ledger.specs.Crossings.{Crossing, hands, crossed, all_crossed}
use Rattle.ledger.specs.Holdings.{papers_at, seat_papers}
use Rattle.ledger.specs.Stock.{exchange}
use Rattle.ledger.specs.declared.books.Books.{Books}
use Rattle.promises.proofs.Counts.{two_tenths}
use Rattle.promises.proofs.Handovers.{only_bit}
use Rattle.promises.proofs.Led.{one_place}
use Rattle.promises.proofs.Sound.{Sound, crossing_sound}
use Rattle.promises.proofs.Subsets.{lowest_small, lowest_held, lowest_sub}
use Rattle.promises.proofs.Tenths.{Handed, hands_tenths, tens, heads}

pub record Exchanged (t d u e : ℕ → ℕ) (new old : ℕ) : Type 0 where
  pub tenths : (p : ℕ) → u p ≡ t p
  pub new_has : e new ≡ d new + 1
  pub old_gave : e old + 1 ≡ d old
  pub others : (p : ℕ) → p ≢ new → p ≢ old → e p ≡ d p

-- two tenths there and two tenths back
module _ (t d u e v f : ℕ → ℕ) (i j : ℕ) (ne : i ≢ j) (there : Handed t d u e i j 2 0) (back : Handed u e v f j i 2 1) where
  swapped : Exchanged t d v f i j
  swapped =
      record {
        tenths = λ p.
            ⊎_elim
            (λ same. let a = there.gave in let b = back.took in let c = ap v same in let g = ap t same in omega (arith, a, b, c, g))
            (λ ni.
            ⊎_elim
            (λ same. let a = there.took in let b = back.gave in let c = ap v same in let g = ap t same in omega (arith, a, b, c, g))
            (λ nj. back.others p nj ni ∙ there.others p ni nj)
            (cases_eq p j))
            (cases_eq p i);
        new_has = let a = there.gave_director in let b = back.took_director in omega (arith, a, b);
        old_gave = let a = there.took_director in let b = back.gave_director in omega (arith, a, b);
        others = λ p ni nj. back.others_director p nj ni ∙ there.others_director p ni nj;
      }

only_one : (x y : ℕ) → x + y ≤ 1 → y ≡ 1 → x ≡ 0
only_one x y h e = omega arith

none_of_none : (x y : ℕ) → x ≤ y → y ≡ 0 → x ≡ 0
none_of_none x y h e = omega arith

two_of : (x : ℕ) → 2 ≤ x → min 2 x ≡ 2
two_of x h = omega arith

still_one : (x y : ℕ) → x ≡ y + 0 → y ≡ 1 → x ≡ 1
still_one x y e f = omega arith

module _ (b : Book) (few : b.bank ≤ 50000) (s : Books) (ok : Sound b s) (company new old : ℕ) (low : 1 ≤ company) (high : company ≤ 8)
    (ne : new ≢ old) (n1 : 1 ≤ new) (n2 : new ≤ s.players) (o1 : 1 ≤ old) (o2 : old ≤ s.players)
    (holds : heads s company (old + 1) ≡ 1) (has : 2 ≤ tens s company (new + 1)) where
  abbrev set : ℕ
  set = (papers_at s company (seat_papers new)).certificates

  abbrev x : Crossing
  x = hands company (seat_papers new) (seat_papers old) (lowest_two set)

  apart : new + 1 ≢ old + 1
  apart e = ne (omega arith)

  apart' : old + 1 ≢ new + 1
  apart' e = ne (omega arith)

  new_inside : new + 1 < 8
  new_inside = let p = ok.seats in omega arith

  old_inside : old + 1 < 8
  old_inside = let p = ok.seats in omega arith

  not_new : heads s company (new + 1) ≡ 0
  not_new = only_one (heads s company (new + 1)) (heads s company (old + 1)) (one_place b s ok company (new + 1) (old + 1) apart) holds

  abbrev Move : Books → Books → ℕ → ℕ → ℕ → ℕ → Type 0
  Move a c i j n m = Handed (λ p. tens a company p) (λ p. heads a company p) (λ p. tens c company p) (λ p. heads c company p) i j n m

  there : Move s (crossed s x) (new + 1) (old + 1) 2 0
  there =
      let small = (papers_at s company (new + 1)).nine in
      let h = hands_tenths b s ok company (new + 1) (old + 1) (lowest_two set) low high new_inside old_inside apart (lowest_small 2 0 9 set small) (lowest_held 2 0 9 set small) in
      let first : sized size 0 9 (lowest_two set) ≡ 2 = two_tenths set not_new ∙ two_of (sized size 0 9 set) has in
      let second : bit 0 (lowest_two set) ≡ 0 = none_of_none (bit 0 (lowest_two set)) (bit 0 set) (lowest_sub 2 0 9 set 0) not_new in
      subst (λ (n : ℕ). Move s (crossed s x) (new + 1) (old + 1) n 0) first
      (subst (λ (m : ℕ). Move s (crossed s x) (new + 1) (old + 1) (sized size 0 9 (lowest_two set)) m) second h)

  abbrev y : Crossing
  y = hands company (seat_papers old) (seat_papers new) 1

  back : Move (crossed s x) (crossed (crossed s x) y) (old + 1) (new + 1) 2 1
  back =
      let still : heads (crossed s x) company (old + 1) ≡ 1 = still_one (heads (crossed s x) company (old + 1)) (heads s company (old + 1)) there.took_director holds in
      hands_tenths b (crossed s x) (crossing_sound b few s ok x) company (old + 1) (new + 1) 1 low high old_inside new_inside apart' (omega arith) (only_bit _ still)

  pub exchange_swaps : Exchanged (λ p. tens s company p) (λ p. heads s company p) (λ p. tens (all_crossed s (exchange s company new old)) company p) (λ p. heads (all_crossed s (exchange s company new old)) company p) (new + 1) (old + 1)
  exchange_swaps =
      swapped (λ p. tens s company p) (λ p. heads s company p) (λ p. tens (crossed s x) company p) (λ p. heads (crossed s x) company p) (λ p. tens (crossed (crossed s x) y) company p) (λ p. heads (crossed (crossed s x) y) company p) (new + 1) (old + 1) apart there back
