-- A granted sale: each of its crossings is granted.
use Rattle.std.proofs.Common.{◌≡◌, ℕ, ◌*◌, ◌≤◌, Bool, true, false, cond, [], ◌∷◌, ℤ, pos, negsuc, ◌-ℤ◌, ◌≤ℤ◌, sym, refl, subst, arith}
use Rattle.std.proofs.lemmas.Int.{ints}
use Rattle.std.proofs.lemmas.Bool.{and_parts}
use Rattle.rulebook.specs.Book.{Book}
use Rattle.ledger.specs.Answers.{below_floor}
use Rattle.ledger.specs.Certificates.{lowest_ordinary}
use Rattle.ledger.specs.Crossings.{pays, hands, crossed, all_crossed}
use Rattle.ledger.specs.Holdings.{bank, pool, seat_papers, marks_at, papers_at, price_of, largest_other}
use Rattle.ledger.specs.Stock.{exchange, another_leads, sell_exchange, sell_crossings}
use Rattle.ledger.specs.declared.books.Books.{Books}
use Rattle.promises.proofs.Handovers.{carriable_append, hand_over, exchange_granted}
use Rattle.promises.proofs.Payments.{bank_can_pay}
use Rattle.promises.proofs.Seats.{largest_other_in, largest_other_other}
use Rattle.promises.proofs.Sound.{Sound, Carriable, crossing_sound, crossings_sound}
use Rattle.promises.proofs.Subsets.{lowest_small, lowest_held}

pub not_below : (z : ℤ) → below_floor z ≡ false → negsuc 19999 ≤ℤ z
not_below z e = grind (arith, ints)

module _ (b : Book) (few : b.bank ≤ 50000) (s : Books) (ok : Sound b s) (seat company tenths : ℕ)
    (c1 : 1 ≤ company) (c8 : company ≤ 8) (s1 : 1 ≤ seat) (sn : seat ≤ s.players)
    (enough : below_floor (marks_at s bank -ℤ pos (tenths * price_of b s company)) ≡ false) where
  abbrev new : ℕ
  new = largest_other s company seat

  first_granted : (t : Bool) → another_leads s seat company tenths ≡ t → Carriable s (cond t (exchange s company new seat) [])
  first_granted true e =
      let inside = largest_other_in s seat s1 sn company in
      exchange_granted b few s ok company new seat c1 c8 (largest_other_other s seat s1 sn company ok.seats.0) inside.0 inside.1 s1 sn (and_parts _ _ e).0
  first_granted false e = tt

  same_bank : (t : Bool) → marks_at (all_crossed s (cond t (exchange s company new seat) [])) bank ≡ marks_at s bank
  same_bank true = refl
  same_bank false = refl

  -- the rest of the sale, whatever was exchanged before it
  module _ (t : Books) (sound : Sound b t) (same : marks_at t bank ≡ marks_at s bank) where
    rest_granted : Carriable t (pays bank seat (tenths * price_of b s company) ∷ (hands company (seat_papers seat) pool (lowest_ordinary tenths (papers_at t company (seat_papers seat)).certificates) ∷ []))
    rest_granted =
        let p = ok.seats in
        let set = (papers_at t company (seat_papers seat)).certificates in
        let small = (papers_at t company (seat_papers seat)).nine in
        let x = pays bank seat (tenths * price_of b s company) in
        let paid = bank_can_pay b few t sound seat (tenths * price_of b s company) (omega arith) (omega arith) (subst (λ z. negsuc 19999 ≤ℤ (z -ℤ pos (tenths * price_of b s company))) (sym same) (not_below _ enough)) in
        (paid, (hand_over b few (crossed t x) (crossing_sound b few t sound x) company (seat_papers seat) pool (omega arith) (omega arith) (λ e. omega arith) (lowest_ordinary tenths set) (lowest_small tenths 1 8 set small) (lowest_held tenths 1 8 set small), tt))

  pub sale_granted : Carriable s (sell_crossings b s seat company tenths)
  sale_granted =
      let first = sell_exchange s seat company tenths in
      let t = all_crossed s first in
      carriable_append s first _ (first_granted (another_leads s seat company tenths) refl)
      (rest_granted t (crossings_sound b few s ok first) (same_bank (another_leads s seat company tenths)))
