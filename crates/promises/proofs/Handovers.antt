-- Certificates change hands in sound books.
use Rattle.std.proofs.Common.{◌≡◌, ℕ, ◌%◌, ◌<◌, ◌≤◌, true, cond, ◌&&◌, eqb, ◌≢◌, List, [], ◌∷◌, ◌++◌, Ok, sym, refl, ap, ◌∙◌, div-one, arith}
use lib.Bits.{bit_and, and_mask}
use Rattle.std.proofs.lemmas.Int.{ints}
use Rattle.std.proofs.lemmas.Bool.{eq-eqb, ne_eqb, eqb-true}
use Rattle.kinds.specs.Papers.{bit}
use Rattle.kinds.specs.Bits.{bit_below}
use Rattle.rulebook.specs.Book.{Book}
use Rattle.ledger.specs.Certificates.{lowest_two}
use Rattle.ledger.specs.Crossings.{Crossing, hands, crossing_outcome, crossed, all_crossed}
use Rattle.ledger.specs.Holdings.{company_of, papers_at, seat_papers, holds_director}
use Rattle.ledger.specs.Stock.{exchange}
use Rattle.ledger.specs.declared.books.Books.{Books}
use Rattle.promises.specs.Accounts.{paper_hand}
use Rattle.promises.proofs.Moved.{moved}
use Rattle.promises.proofs.PaperRow.{hand_granted}
use Rattle.promises.proofs.Sound.{Sound, Carriable, crossing_sound}
use Rattle.promises.proofs.Subsets.{lowest_small, lowest_held}

pub carriable_append : (s : Books) (xs ys : List Crossing) → Carriable s xs → Carriable (all_crossed s xs) ys → Carriable s (xs ++ ys)
carriable_append s [] ys p q = q
carriable_append s (x ∷ xs) ys p q = (p.0, carriable_append (crossed s x) xs ys p.1 q)

pub only_bit : (n : ℕ) → bit 0 n ≡ 1 → bit_and n 1 ≡ 1
only_bit n e = and_mask n 1 ∙ ap (λ z. z % 2) (sym (div-one n)) ∙ e

module _ (b : Book) (few : b.bank ≤ 50000) where
  module _ (s : Books) (ok : Sound b s) (company i j : ℕ) (hi : i < 8) (hj : j < 8) (ne : i ≢ j) where
    -- part of what a hand holds
    pub hand_over : (bits : ℕ) → bits < 512 → bit_and (papers_at s company i).certificates bits ≡ bits → (crossing_outcome s (hands company i j bits)).0 ≡ Ok tt
    hand_over bits small holds = hand_granted (company_of s company).papers i j bits (ok.papers_wide company) (ok.papers_once company) hi hj ne small holds

    -- who receives certificates still holds what he had
    pub receiver_keeps : (bits : ℕ) → 1 ≤ company → company ≤ 8 → (crossing_outcome s (hands company i j bits)).0 ≡ Ok tt → holds_director s company j ≡ true → bit 0 (papers_at (crossed s (hands company i j bits)) company j).certificates ≡ 1
    receiver_keeps bits low high granted holds =
        let m = moved s ok.records_wide (hands company i j bits) (low, high) granted (paper_hand company j) (low, high) 0 in
        let had = eqb-true (bit 0 (papers_at s company j).certificates) 1 holds in
        let c = eq-eqb company company refl in
        let e = ap (λ t. cond (t && eqb j i) (bit 0 bits) 0) c ∙ ap (λ t. cond t (bit 0 bits) 0) (ne_eqb j i (λ e. ne (sym e))) in
        let most = bit_below 0 (papers_at (crossed s (hands company i j bits)) company j).certificates in
        omega (arith, ints, m, had, e, most)

  pub exchange_granted : (s : Books) → Sound b s → (company new old : ℕ) → 1 ≤ company → company ≤ 8 → new ≢ old → 1 ≤ new → new ≤ s.players → 1 ≤ old → old ≤ s.players → holds_director s company (seat_papers old) ≡ true → Carriable s (exchange s company new old)
  exchange_granted s ok company new old low high ne n1 n2 o1 o2 holds =
      let p = ok.seats in
      let set = (papers_at s company (seat_papers new)).certificates in
      let small = (papers_at s company (seat_papers new)).nine in
      let first = hand_over s ok company (seat_papers new) (seat_papers old) (omega arith) (omega arith) (λ e. ne (omega arith)) (lowest_two set) (lowest_small 2 0 9 set small) (lowest_held 2 0 9 set small) in
      let x = hands company (seat_papers new) (seat_papers old) (lowest_two set) in
      let still = receiver_keeps s ok company (seat_papers new) (seat_papers old) (omega arith) (omega arith) (λ e. ne (omega arith)) (lowest_two set) low high first holds in
      let second = hand_over (crossed s x) (crossing_sound b few s ok x) company (seat_papers old) (seat_papers new) (omega arith) (omega arith) (λ e. ne (omega arith)) 1 (omega arith) (only_bit _ still) in
      (first, (second, tt))
