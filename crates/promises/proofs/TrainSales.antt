-- A granted bill or train purchase: each of its crossings is granted.
use Rattle.std.proofs.Common.{◌≡◌, ℕ, zero, suc, ◌+◌, ◌<◌, ◌≤◌, Bool, true, false, cond, not, ltb, List, [], ◌∷◌, ◌++◌, get_or, ℤ, pos, negsuc, ◌+ℤ◌, ◌-ℤ◌, ◌≤ℤ◌, Some, None, Ok, Option, sym, refl, ap, subst, arith}
use lib.Signed.{lt_z}
use Rattle.std.proofs.lemmas.Int.{ints}
use Rattle.std.proofs.lemmas.Bool.{ltb-true, cond_both, eqb-true, and_parts}
use Rattle.rulebook.specs.Book.{Book}
use Rattle.ledger.specs.Crossings.{pays, moves, crossing_outcome, crossed}
use Rattle.kinds.specs.declared.trains.Trains.{Trains}
use Rattle.ledger.specs.Holdings.{bank, treasury, stack, no_trains, marks_at, trains_held, lowest_kind_from, lowest_kind, has_train}
use Rattle.ledger.specs.Operating.{lacking, missing, needs_help, same_kind, help, first_payment}
use Rattle.ledger.specs.declared.books.Books.{Books}
use Rattle.promises.proofs.Payments.{can_pay, receiver_then}
use Rattle.promises.proofs.Sound.{Sound, Carriable, crossing_sound}
use Rattle.promises.proofs.TrainRow.{move_granted}

-- the lowest kind is one of which the stack has a train
pub lowest_found : (s : Books) (n from kind : ℕ) → lowest_kind_from s from n ≡ Some kind → (kind < from + n) × (0 < trains_held s stack kind)
lowest_found s zero from kind e = let z : ◌≡◌ {A = ℕ} 0 1 = cc in absurd (omega arith)
lowest_found s (suc n) from kind given =
    cond_both (ltb 0 (trains_held s stack from)) (Some from) (lowest_kind_from s (suc from) n) (λ o. o ≡ Some kind → (kind < from + suc n) × (0 < trains_held s stack kind))
    (λ some e.
    let here : from ≡ kind = cc in
    let some' = ltb-true 0 (trains_held s stack from) some in
    (omega arith, subst (λ k. 0 < trains_held s stack k) here some'))
    (λ _ e. let r = lowest_found s n (suc from) kind e in (omega (arith, r.0), r.1))
    given

same_kind_is : (o : Option ℕ) (kind : ℕ) → same_kind o kind ≡ true → o ≡ Some kind
same_kind_is None kind e = let z : ◌≡◌ {A = ℕ} 0 1 = cc in absurd (omega arith)
same_kind_is (Some lowest) kind e = ap Some (eqb-true lowest kind e)

below : (a b : ℤ) → lt_z a b ≡ true → (a +ℤ pos 1) ≤ℤ b
below a b e = grind (arith, ints)

pub lacks : (m : ℤ) (price : ℕ) → lt_z m (pos price) ≡ true → (m +ℤ pos (lacking (pos price -ℤ m))) ≡ pos price
lacks m price e = filled (pos price -ℤ m) refl (below m (pos price) e)
  where
    filled : (z : ℤ) → pos price -ℤ m ≡ z → (m +ℤ pos 1) ≤ℤ pos price → (m +ℤ pos (lacking z)) ≡ pos price
    filled (pos n) e h = omega (arith, ints)
    filled (negsuc n) e h = omega (arith, ints)

module _ (b : Book) (few : b.bank ≤ 50000) (s : Books) (ok : Sound b s) (company kind : ℕ) (low : 1 ≤ company) (high : company ≤ 8)
    (counts : (k : ℕ) → b.train_count k ≤ 30) (lowest : same_kind (lowest_kind s) kind ≡ true) where
  abbrev price : ℕ
  price = b.train_price kind

  -- the train comes over whatever was paid before it
  train_moves : (t : Books) → Sound b t → t.trains ≡ s.trains → (crossing_outcome t (moves stack company (record { kind = kind; count = 1 }))).0 ≡ Ok tt
  train_moves t sound same =
      let found = lowest_found s 8 0 kind (same_kind_is (lowest_kind s) kind lowest) in
      move_granted t.trains stack company kind (b.train_count kind) sound.trains_wide (sound.trains_sum kind) (counts kind) (omega arith) (omega arith) (λ e. omega arith) (omega (arith, found.0))
      (subst (λ (r : List Trains). 0 < get_or (get_or r stack no_trains).counts kind 0) (sym same) found.1)

  place : (treasury s company < 15) × (0 < treasury s company)
  place = let p = ok.seats in (omega arith, omega arith)

  unhelped : (crossing_outcome s (pays (treasury s company) bank price)).0 ≡ Ok tt → Carriable s (pays (treasury s company) bank price ∷ (moves stack company (record { kind = kind; count = 1 }) ∷ []))
  unhelped paid = (paid, (train_moves (crossed s (pays (treasury s company) bank price)) (crossing_sound b few s ok (pays (treasury s company) bank price)) refl, tt))

  helped : (seat : ℕ) → seat ≤ s.players → needs_help s company price ≡ true → (crossing_outcome s (pays seat (treasury s company) (missing s company price))).0 ≡ Ok tt
      → Carriable s (pays seat (treasury s company) (missing s company price) ∷ (pays (treasury s company) bank price ∷ (moves stack company (record { kind = kind; count = 1 }) ∷ [])))
  helped seat inside short given =
      let x = pays seat (treasury s company) (missing s company price) in
      let p = place in
      let t = crossed s x in
      let sound = crossing_sound b few s ok x in
      let has = receiver_then b few s ok seat (treasury s company) (missing s company price) (omega (arith, ok.seats, p)) p.0 (λ e. omega arith) given in
      let full = lacks (marks_at s (treasury s company)) price (and_parts (not (has_train s company)) (lt_z (marks_at s (treasury s company)) (pos price)) short).1 in
      let enough : pos price ≤ℤ marks_at t (treasury s company) = omega (arith, ints, has, full) in
      let paid = can_pay b few t sound (treasury s company) bank price p.0 (omega arith) (λ e. omega (arith, p)) enough in
      (given, (paid, (train_moves (crossed t (pays (treasury s company) bank price)) (crossing_sound b few t sound (pays (treasury s company) bank price)) refl, tt)))

  pub train_granted : (o : Option ℕ) → ((seat : ℕ) → o ≡ Some seat → seat ≤ s.players) → (crossing_outcome s (first_payment s company price o)).0 ≡ Ok tt
      → Carriable s (help s company price o ++ (pays (treasury s company) bank price ∷ (moves stack company (record { kind = kind; count = 1 }) ∷ [])))
  train_granted None inside paid = unhelped paid
  train_granted (Some seat) inside given =
      by_help (needs_help s company price) refl given
    where
      by_help : (t : Bool) → needs_help s company price ≡ t → (crossing_outcome s (cond t (pays seat (treasury s company) (missing s company price)) (pays (treasury s company) bank price))).0 ≡ Ok tt
          → Carriable s (cond t (pays seat (treasury s company) (missing s company price) ∷ []) [] ++ (pays (treasury s company) bank price ∷ (moves stack company (record { kind = kind; count = 1 }) ∷ [])))
      by_help true e paid = helped seat (inside seat refl) e paid
      by_help false e paid = unhelped paid
