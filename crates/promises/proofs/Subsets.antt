-- The lowest certificates of a set are some of that set.
use Rattle.std.proofs.Common.{◌≡◌, ℕ, zero, suc, ◌+◌, ◌-◌, ◌*◌, ◌%◌, ◌^◌, ◌<◌, ◌≤◌, eqb, sym, ap, ◌∙◌, ⊎_elim, mul_assoc, add_comm, one-mul, pow-suc, zero-mul, arith}
use lib.Bits.{bit_and, bit_or, and_shifted, or_shifted, shifted_even}
use Rattle.std.proofs.lemmas.Nat.{pow-add, pow_below, shl-shr}
use Rattle.std.proofs.lemmas.Bool.{eqb-true, cond_both, cases_eq, cases_order}
use Rattle.kinds.specs.Papers.{bit}
use Rattle.kinds.specs.Bits.{below_from, bit_below, bit_past, bit_zero, all_there, rises}
use Rattle.ledger.specs.Certificates.{lowest_from, lowest_ordinary}

-- a multiple of 2 ^ k has no number below k
pub bit_multiple : (t k z : ℕ) → t < k → bit t (z * 2 ^ k) ≡ 0
bit_multiple t k z lt =
    let d = k - t - 1 in
    let parts : k ≡ suc d + t = omega arith in
    let whole : z * 2 ^ k ≡ z * 2 ^ suc d * 2 ^ t = ap (λ m. z * 2 ^ m) parts ∙ ap (λ m. z * m) (pow-add 2 (suc d) t) ∙ sym (mul_assoc z (2 ^ suc d) (2 ^ t)) in
    ap (bit t) whole ∙ ap (λ m. m % 2) (shl-shr (z * 2 ^ suc d) t) ∙ shifted_even z d

-- one number alone
pub bit_power : (t k : ℕ) → (t ≡ k → ⊥) → bit t (2 ^ k) ≡ 0
bit_power t k ne =
    ⊎_elim (λ e. absurd (ne e)) (⊎_elim (λ lt. ap (bit t) (sym (one-mul (2 ^ k))) ∙ bit_multiple t k 1 lt) (λ lt. bit_past (suc k) t (2 ^ k) (pow_below k (suc k) (omega arith)) lt)) (cases_order t k)

-- that number and some above it
module _ (k z : ℕ) where
  higher : 2 ^ k < 2 ^ suc k
  higher = pow_below k (suc k) (omega arith)

  pub apart : bit_and (z * 2 ^ suc k) (2 ^ k) ≡ 0
  apart = and_shifted z (suc k) (2 ^ k) higher

  pub joined : 2 ^ k + z * 2 ^ suc k ≡ bit_or (z * 2 ^ suc k) (2 ^ k)
  joined = add_comm (2 ^ k) (z * 2 ^ suc k) ∙ sym (or_shifted z (suc k) (2 ^ k) higher)

  pub bit_split : (t : ℕ) → bit t (2 ^ k + z * 2 ^ suc k) ≡ bit t (z * 2 ^ suc k) + bit t (2 ^ k)
  bit_split t = ap (bit t) joined ∙ rises t (z * 2 ^ suc k) (2 ^ k) apart

  once_more : (1 + z * 2) * 2 ^ k ≡ 2 ^ k + z * 2 ^ suc k
  once_more = let p = pow-suc 2 k in rw p (omega arith)

  doubled : z * 2 * 2 ^ k ≡ z * 2 ^ suc k
  doubled = let p = pow-suc 2 k in rw p (omega arith)

pub lowest_high : (n from left set : ℕ) → (z : ℕ) × (lowest_from n from left set ≡ z * 2 ^ from)
lowest_high n from zero set = (0, sym (zero-mul (2 ^ from)))
lowest_high zero from (suc left) set = (0, sym (zero-mul (2 ^ from)))
lowest_high (suc n) from (suc left) set =
    let one = lowest_high n (suc from) left set in
    let two = lowest_high (suc n) (suc from) left set in
    cond_both (eqb (bit from set) 1) (2 ^ from + lowest_from n (suc from) left set) (lowest_from (suc n) (suc from) left set) (λ v. (z : ℕ) × (v ≡ z * 2 ^ from))
    (λ _. (1 + one.0 * 2, ap (λ v. 2 ^ from + v) one.1 ∙ sym (once_more from one.0)))
    (λ _. (two.0 * 2, two.1 ∙ sym (doubled from two.0)))

-- a number that is there, and what is found above it
with_one : (from rest set t : ℕ) → (z : ℕ) × (rest ≡ z * 2 ^ suc from) → bit from set ≡ 1 → bit t rest ≤ bit t set → bit t (2 ^ from + rest) ≤ bit t set
with_one from rest set t high own le =
    let split : bit t (2 ^ from + rest) ≡ bit t rest + bit t (2 ^ from) =
    ap (λ v. bit t (2 ^ from + v)) high.1 ∙ bit_split from high.0 t ∙ ap (λ v. bit t v + bit t (2 ^ from)) (sym high.1)
    in
    ⊎_elim
    (λ e.
    let none : bit t rest ≡ 0 = ap (bit t) high.1 ∙ bit_multiple t (suc from) high.0 (omega arith) in
    let small = bit_below t (2 ^ from) in
    let here : bit t set ≡ 1 = ap (λ u. bit u set) e ∙ own in
    omega (arith, split, none, small, here))
    (λ ne. let none = bit_power t from ne in omega (arith, split, none, le))
    (cases_eq t from)

pub lowest_sub : (n from left set t : ℕ) → bit t (lowest_from n from left set) ≤ bit t set
lowest_sub n from zero set t = let z = bit_zero t in omega (arith, z)
lowest_sub zero from (suc left) set t = let z = bit_zero t in omega (arith, z)
lowest_sub (suc n) from (suc left) set t =
    let one = lowest_sub n (suc from) left set t in
    let two = lowest_sub (suc n) (suc from) left set t in
    cond_both (eqb (bit from set) 1) (2 ^ from + lowest_from n (suc from) left set) (lowest_from (suc n) (suc from) left set) (λ v. bit t v ≤ bit t set)
    (λ e. with_one from (lowest_from n (suc from) left set) set t (lowest_high n (suc from) left set) (eqb-true (bit from set) 1 e) one)
    (λ _. two)

pub lowest_small : (n from left set : ℕ) → set < 512 → lowest_from n from left set < 512
lowest_small n from left set small =
    below_from 9 (lowest_from n from left set) (λ t le. let s = lowest_sub n from left set t in let z = bit_past 9 t set small le in omega (arith, s, z))

pub lowest_held : (n from left set : ℕ) → set < 512 → bit_and set (lowest_from n from left set) ≡ lowest_from n from left set
lowest_held n from left set small =
    all_there 9 set (lowest_from n from left set) small (lowest_small n from left set small) (lowest_sub n from left set)

pub director_out : (n set : ℕ) → bit 0 (lowest_ordinary n set) ≡ 0
director_out n set =
    let high = lowest_high n 1 8 set in
    ap (bit 0) high.1 ∙ bit_multiple 0 1 high.0 (omega arith)
