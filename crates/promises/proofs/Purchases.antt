-- A granted purchase: each of its crossings is granted.
use Rattle.std.proofs.Common.{◌≡◌, ℕ, zero, suc, ◌≤◌, Bool, true, false, cond, not, ◌&&◌, eqb, ltb, List, [], ◌∷◌, pos, ◌+ℤ◌, ◌-ℤ◌, Some, None, Ok, Option, sym, refl, ap, ◌∙◌, subst, ⊎_elim, arith}
use Rattle.std.proofs.lemmas.Int.{ints}
use Rattle.std.proofs.lemmas.Bool.{and_parts, not-true, eqb-false, and_cases, true≢false}
use Rattle.rulebook.specs.Book.{Book}
use Rattle.ledger.specs.Answers.{below_floor}
use Rattle.ledger.specs.Certificates.{lowest_one}
use Rattle.ledger.specs.Crossings.{Crossing, pays, crossing_outcome, crossed, all_crossed}
use Rattle.ledger.specs.Holdings.{bank, treasury, seat_papers, marks_at, papers_at, seat_tenths, director}
use Rattle.ledger.specs.Stock.{exchange, source_set, cost, payee, floats, float_money, float_short, purchase, overtakes, buy_crossings, is_sold_funding}
use Rattle.ledger.specs.declared.books.Books.{Books}
use Rattle.promises.proofs.Handovers.{carriable_append, hand_over, exchange_granted}
use Rattle.promises.proofs.Payments.{bank_can_pay, receiver_then}
use Rattle.promises.proofs.Sales.{not_below}
use Rattle.promises.proofs.Seats.{director_holds}
use Rattle.promises.proofs.Sound.{Sound, Carriable, crossing_sound, crossings_sound}
use Rattle.promises.proofs.Subsets.{lowest_small, lowest_held}

-- a company that floats now had not floated, so the bank is paid
pub bank_paid : (b : Book) (s : Books) (company source : ℕ) → floats b s company source ≡ true → payee b s company source ≡ bank
bank_paid b s company zero e = ap (λ f. cond (f && is_sold_funding b.funding) (treasury s company) bank) (not-true _ (and_parts _ _ e).0)
bank_paid b s company (suc source) e = refl

module _ (b : Book) (few : b.bank ≤ 50000) (s : Books) (ok : Sound b s) (seat company source space : ℕ)
    (c1 : 1 ≤ company) (c8 : company ≤ 8) (s1 : 1 ≤ seat) (sn : seat ≤ s.players) (two : source ≤ 1)
    (paid : (crossing_outcome s (pays seat (payee b s company source) (cost b s company source space))).0 ≡ Ok tt)
    (enough : float_short b s company source space ≡ false) where
  abbrev x : Crossing
  x = pays seat (payee b s company source) (cost b s company source space)

  abbrev first : List Crossing
  first = purchase b s seat company source space

  abbrev t : Books
  t = all_crossed s first

  first_granted : Carriable s first
  first_granted =
      let p = ok.seats in
      let set = source_set s company source in
      let small = (papers_at s company source).nine in
      (paid, (hand_over b few (crossed s x) (crossing_sound b few s ok x) company source (seat_papers seat) (omega arith) (omega arith) (λ e. omega arith) (lowest_one set) (lowest_small 1 0 9 set small) (lowest_held 1 0 9 set small), tt))

  sound : Sound b t
  sound = crossings_sound b few s ok first

  exchanged : (o : Option ℕ) → director t company ≡ o → Carriable t (overtakes t seat company o)
  exchanged None e = tt
  exchanged (Some old) e = by_test (not (eqb old seat) && ltb (seat_tenths t company old) (seat_tenths t company seat)) refl
    where
      by_test : (test : Bool) → (not (eqb old seat) && ltb (seat_tenths t company old) (seat_tenths t company seat)) ≡ test → Carriable t (cond test (exchange t company seat old) [])
      by_test true yes_test =
          let d = director_holds t company old e in
          let apart = eqb-false old seat (not-true _ (and_parts (not (eqb old seat)) _ yes_test).0) in
          exchange_granted b few t sound company seat old c1 c8 (λ same. apart (sym same)) s1 sn d.1 d.2 d.0
      by_test false no_test = tt

  same_cash : (o : Option ℕ) → marks_at (all_crossed t (overtakes t seat company o)) bank ≡ marks_at t bank
  same_cash None = refl
  same_cash (Some old) = by_test (not (eqb old seat) && ltb (seat_tenths t company old) (seat_tenths t company seat))
    where
      by_test : (test : Bool) → marks_at (all_crossed t (cond test (exchange t company seat old) [])) bank ≡ marks_at t bank
      by_test true = refl
      by_test false = refl

  abbrev u : Books
  u = all_crossed t (overtakes t seat company (director t company))

  float_granted : (test : Bool) → floats b s company source ≡ test → Carriable u (cond test (pays bank (treasury s company) (float_money b s company source space) ∷ []) [])
  float_granted true e =
      let p = ok.seats in
      let to = bank_paid b s company source e in
      let short : below_floor (marks_at s bank +ℤ pos (cost b s company source space) -ℤ pos (float_money b s company source space)) ≡ false =
      ⊎_elim (λ no_float. absurd (true≢false (sym e ∙ no_float))) (λ f. f) (and_cases (floats b s company source) _ enough)
      in
      let left = not_below (marks_at s bank +ℤ pos (cost b s company source space) -ℤ pos (float_money b s company source space)) short in
      let to_bank : (crossing_outcome s (pays seat bank (cost b s company source space))).0 ≡ Ok tt = subst (λ (n : ℕ). (crossing_outcome s (pays seat n (cost b s company source space))).0 ≡ Ok tt) to paid in
      let has : marks_at (crossed s (pays seat bank (cost b s company source space))) bank ≡ marks_at s bank +ℤ pos (cost b s company source space) =
      receiver_then b few s ok seat bank (cost b s company source space) (omega arith) (omega arith) (λ e. omega arith) to_bank
      in
      let has' : marks_at t bank ≡ marks_at s bank +ℤ pos (cost b s company source space) =
      ap (λ n. marks_at (crossed s (pays seat n (cost b s company source space))) bank) to ∙ has
      in
      let now = same_cash (director t company) ∙ has' in
      (bank_can_pay b few u (crossings_sound b few t sound (overtakes t seat company (director t company))) (treasury s company) (float_money b s company source space) (omega arith) (omega arith) (omega (arith, ints, left, now)), tt)
  float_granted false e = tt

  pub purchase_granted : Carriable s (buy_crossings b s seat company source space)
  purchase_granted =
      carriable_append s first _ first_granted
      (carriable_append t (overtakes t seat company (director t company)) _ (exchanged (director t company) refl) (float_granted (floats b s company source) refl))
