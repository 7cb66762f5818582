-- The definitions of who holds what, over lists of numbers; and one seat more.
use lib.Bits.{bit_and, and_le_r}
use Rattle.std.proofs.Common.{◌≡◌, ℕ, zero, suc, ◌+◌, ◌-◌, ◌*◌, ◌<◌, ◌≤◌, cond, ltb, map, fold, find, sum, Option, Some, None, refl, sym, ap, ◌∙◌, add-one, arith}
use lib.Count.{ones-le, ones}
use Rattle.std.specs.List.{range_with_len}
use Rattle.std.proofs.lemmas.List.Sums.{sum_by-cons}
use Rattle.std.proofs.lemmas.Bool.{lt-ltb, le-ltb, cond-true, cond-false}
use Rattle.kinds.specs.Papers.{certificate_count, tenths}
use Rattle.kinds.specs.declared.papers.Papers.{Papers}
use Rattle.kinds.specs.Certificates.{counted, tenths_counted}
use Rattle.rulebook.specs.Book.{Book}
use Rattle.ledger.specs.declared.books.Books.{Books}
use Rattle.ledger.specs.Holdings.{next_seat, holds_director, seat_papers, seat_tenths, director_from, papers_at, certificates_held, seat_after, leader, waiting, better, next_of}

-- the first seat with the director's certificate
pub director_found : (s : Books) (company seat n : ℕ) → find (λ k. holds_director s company (seat_papers k)) (range_with_len seat n) ≡ director_from s company seat n
director_found s company seat zero = refl
director_found s company seat (suc n) =
    ap (cond (holds_director s company (seat_papers seat)) (Some seat)) (director_found s company (seat + 1) n ∙ ap (λ k. director_from s company k n) (add-one seat))

-- nine certificates at most
pub at_most_nine : (p : Papers) → certificate_count p ≤ 9
at_most_nine p = let n = counted p in let m = ones-le 9 p.certificates p.nine in omega (arith, n, m)

-- the certificates of a seat, over the companies from k + 1 on
module _ (s : Books) (seat : ℕ) where
  abbrev pub at_company : ℕ → ℕ
  at_company company = certificate_count (papers_at s company (seat_papers seat))

  held_over : (k n : ℕ) → certificates_held s seat k + sum (map at_company (range_with_len (k + 1) n)) ≡ certificates_held s seat (k + n)
  held_over k zero = let same : k ≡ k + zero = omega arith in let here = ap (certificates_held s seat) same in omega (arith, here)
  held_over k (suc n) =
      let more : certificates_held s seat (k + 1) ≡ certificates_held s seat k + at_company (k + 1) = ap (certificates_held s seat) (add-one k) ∙ ap (λ m. certificates_held s seat k + at_company m) (sym (add-one k)) in
      let index : k + 1 + n ≡ k + suc n = omega arith in
      let first : sum (map at_company (range_with_len (k + 1) (suc n))) ≡ at_company (k + 1) + sum (map at_company (range_with_len (k + 1 + 1) n)) = sum_by-cons (λ x. x) (at_company (k + 1)) (map at_company (range_with_len (k + 1 + 1) n)) in
      omega (arith, first, more, held_over (k + 1) n, ap (certificates_held s seat) index)

  pub all_held : (n : ℕ) → sum (map at_company (range_with_len 1 n)) ≡ certificates_held s seat n
  all_held n = let same : 0 + n ≡ n = omega arith in omega (arith, held_over 0 n, ap (certificates_held s seat) same)

  pub few_held : (a n : ℕ) → sum (map at_company (range_with_len a n)) ≤ 9 * n
  few_held a zero = omega arith
  few_held a (suc n) =
      let first : sum (map at_company (range_with_len a (suc n))) ≡ at_company a + sum (map at_company (range_with_len (a + 1) n)) = sum_by-cons (λ x. x) (at_company a) (map at_company (range_with_len (a + 1) n)) in
      omega (arith, first, at_most_nine (papers_at s a (seat_papers seat)), few_held (a + 1) n)

-- the next company, over those from k + 1 on: each waits for its turn, or it does not
module _ (b : Book) (s : Books) where
  abbrev pub with_company : Option ℕ → ℕ → Option ℕ
  with_company best company = cond (waiting s company) (better b s best company) best

  best_over : (k n : ℕ) → fold with_company (next_of b s k) (range_with_len (k + 1) n) ≡ next_of b s (k + n)
  best_over k zero = let same : k ≡ k + zero = omega arith in ap (next_of b s) same
  best_over k (suc n) =
      let index : k + 1 + n ≡ k + suc n = omega arith in
      let next : next_of b s (k + 1) ≡ with_company (next_of b s k) (k + 1) = ap (next_of b s) (add-one k) ∙ ap (with_company (next_of b s k)) (sym (add-one k)) in
      ap (λ o. fold with_company o (range_with_len (k + 1 + 1) n)) (sym next) ∙ best_over (k + 1) n ∙ ap (next_of b s) index

  pub next_found : (n : ℕ) → fold with_company None (range_with_len 1 n) ≡ next_of b s n
  next_found n = let same : 0 + n ≡ n = omega arith in best_over 0 n ∙ ap (next_of b s) same

-- one seat more is seen, and the leader of those seen before stays or gives way
module _ (s : Books) (company seat seen next : ℕ) (from : 2 ≤ seen) where
  module _ (after : ℕ) (here : next ≡ seat_after s seat (seen - 1)) (moved : after ≡ next_seat s next) where
    pub seat_seen : after ≡ seat_after s seat (seen + 1 - 1)
    seat_seen = let n : suc (seen - 1) ≡ seen + 1 - 1 = omega arith in moved ∙ ap (next_seat s) here ∙ ap (seat_after s seat) n

    module _ (best : ℕ) (leads : best ≡ leader s company seat (seen - 2)) where
      leader_seen : leader s company seat (seen + 1 - 2) ≡ cond (ltb (seat_tenths s company best) (seat_tenths s company after)) after best
      leader_seen =
          let n : seen + 1 - 2 ≡ suc (seen - 2) = omega arith in
          let m : suc (suc (seen - 2)) ≡ seen + 1 - 1 = omega arith in
          ap (leader s company seat) n
          ∙ ap (λ a. cond (ltb (seat_tenths s company (leader s company seat (seen - 2))) (seat_tenths s company a)) a (leader s company seat (seen - 2))) (ap (seat_after s seat) m ∙ sym seat_seen)
          ∙ ap (λ a. cond (ltb (seat_tenths s company a) (seat_tenths s company after)) after a) (sym leads)

      module _ (held more : ℕ) (of_best : held ≡ seat_tenths s company best) (of_after : more ≡ seat_tenths s company after) where
        compared : ltb held more ≡ ltb (seat_tenths s company best) (seat_tenths s company after)
        compared = ap (λ n. ltb n more) of_best ∙ ap (ltb (seat_tenths s company best)) of_after

        pub gives_way : held < more → after ≡ leader s company seat (seen + 1 - 2)
        gives_way h = sym (leader_seen ∙ cond-true _ _ _ (sym compared ∙ lt-ltb held more h))

        pub stays : more ≤ held → best ≡ leader s company seat (seen + 1 - 2)
        stays h = sym (leader_seen ∙ cond-false _ _ _ (sym compared ∙ le-ltb held more h))

-- no hand has more than ten tenths
pub at_most_ten : (p : Papers) → tenths p ≤ 10
at_most_ten p =
    let few = ones-le 9 p.certificates p.nine in
    let one = and_le_r p.certificates 1 in
    let same = tenths_counted p in
    total (ones p.certificates) (bit_and p.certificates 1) (tenths p) few one same
  where
    total : (a b t : ℕ) → a ≤ 9 → b ≤ 1 → a + b ≡ t → t ≤ 10
    total a b t h k e = omega arith
