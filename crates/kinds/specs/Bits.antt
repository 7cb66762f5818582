-- Sets of small numbers, bit by bit.
use Rattle.std.specs.Prelude.{◌≡◌, ℕ, zero, suc, ◌+◌, ◌*◌, ◌/◌, ◌%◌, ◌^◌, ◌<◌, ◌≤◌, true, false, ◌⊎◌, ◌==◌, bit_or, count_ones, refl}
use Rattle.std.proofs.Common.{min, sym, ap, subst, ◌∙◌, inl, inr, ⊎_elim, add-one, arith, lit<, pow_pos}
use Rattle.std.proofs.Math.Nat.{div-lt_iff_lt-mul}
use Rattle.std.specs.Int.Bits.{bit_and, bit_xor, and_zero_l, and_zero_r}
use Rattle.std.specs.Int.Count.{ones_step}
use Rattle.std.proofs.Math.Pow.{pow-lt}
use Rattle.std.proofs.lemmas.Nat.{shr_below, shr-shr, and_shr, and_mod, xor_shr, xor_mod, ones-le}
use Rattle.std.proofs.lemmas.Nat.Bits.{bit_at-zero, bit_at-lt, bit_at_above, bit_at_and, bit_at_or, bit_at_xor, same_from_bits}
use Rattle.std.proofs.lemmas.Bool.{eqb-true, eqb-false, eq-eqb, cases_lt}
use Rattle.kinds.specs.Papers.{bit, sized}

pub bit_of_and : (t a b : ℕ) → bit t (bit_and a b) ≡ bit_and (bit t a) (bit t b)
bit_of_and t a b = ap (λ z. z % 2) (and_shr a b t) ∙ and_mod (a / 2 ^ t) (b / 2 ^ t) 1

pub bit_of_xor : (t a b : ℕ) → bit t (bit_xor a b) ≡ bit_xor (bit t a) (bit t b)
bit_of_xor t a b = ap (λ z. z % 2) (xor_shr a b t) ∙ xor_mod (a / 2 ^ t) (b / 2 ^ t) 1

pub bit_zero : (t : ℕ) → bit t 0 ≡ 0
bit_zero = bit_at-zero

pub bit_below : (t n : ℕ) → bit t n < 2
bit_below t n = bit_at-lt n t

pub bit_past : (k t n : ℕ) → n < 2 ^ k → k ≤ t → bit t n ≡ 0
bit_past k t n h le = bit_at_above n k t h le

low : (n : ℕ) → n < 2 → (n ≡ 0) ⊎ (n ≡ 1)
low zero h = inl refl
low (suc n) h = inr (omega arith)

-- numbers with the same bits are the same
pub by_bits : (k a b : ℕ) → a < 2 ^ k → b < 2 ^ k → ((t : ℕ) → bit t a ≡ bit t b) → a ≡ b
by_bits k a b ha hb h = same_from_bits a b h

below_power : (n : ℕ) → n < 2 ^ n
below_power zero = lit< tt
below_power (suc n) = let h = below_power n in let p : 2 ^ n < 2 ^ suc n = pow-lt (omega arith) in omega arith

-- a set that has no number from k on
pub below_from : (k n : ℕ) → ((t : ℕ) → k ≤ t → bit t n ≡ 0) → n < 2 ^ k
below_from k n h =
    let none : n / 2 ^ k ≡ 0 = same_from_bits (n / 2 ^ k) 0 (λ t. ap (λ z. z % 2) (shr-shr n k t) ∙ h (k + t) (omega arith) ∙ sym (bit_zero t)) in
    let below : n < 1 * 2 ^ k = (div-lt_iff_lt-mul (pow_pos k)).0 (omega (arith, none)) in
    omega arith

-- of two bits
and_under : (u v : ℕ) → u < 2 → v < 2 → v ≤ u → bit_and u v ≡ v
and_under u v hu hv le =
    ⊎_elim (λ e. ap (bit_and u) e ∙ and_zero_r u ∙ sym e) (λ e. let f : u ≡ 1 = omega arith in ap (λ z. bit_and z v) f ∙ ap (bit_and 1) e ∙ sym e) (low v hv)

and_apart : (u v : ℕ) → u < 2 → v < 2 → u + v ≤ 1 → bit_and u v ≡ 0
and_apart u v hu hv le =
    ⊎_elim (λ e. ap (bit_and u) e ∙ and_zero_r u) (λ e. let f : u ≡ 0 = omega arith in ap (λ z. bit_and z v) f ∙ and_zero_l v) (low v hv)

module _ (k p l : ℕ) (hp : p < 2 ^ k) (hl : l < 2 ^ k) where
  pub all_there : ((t : ℕ) → bit t l ≤ bit t p) → bit_and p l ≡ l
  all_there h = same_from_bits (bit_and p l) l (λ t. let a = bit_at_and p l t in let le = h t in omega (arith, a, le))

  pub none_there : ((t : ℕ) → bit t p + bit t l ≤ 1) → bit_and p l ≡ 0
  none_there h = same_from_bits (bit_and p l) 0 (λ t. let a = bit_at_and p l t in let le = h t in let z = bit_zero t in omega (arith, a, le, z))

-- a bit that is there falls, one that is not rises
pub falls : (t p l : ℕ) → bit_and p l ≡ l → bit t (bit_xor p l) + bit t l ≡ bit t p
falls t p l e =
    let x = bit_at_xor p l t in
    let a : bit t l ≡ min (bit t p) (bit t l) = sym (ap (bit t) e) ∙ bit_at_and p l t in
    let few = bit_below t p in
    omega (arith, x, a, few)

pub rises : (t p l : ℕ) → bit_and p l ≡ 0 → bit t (bit_or p l) ≡ bit t p + bit t l
rises t p l e =
    let o = bit_at_or p l t in
    let a : 0 ≡ min (bit t p) (bit t l) = sym (ap (bit t) e ∙ bit_zero t) ∙ bit_at_and p l t in
    omega (arith, o, a)

pub named_one : (t n : ℕ) → (bit t n == 1) ≡ false → bit t n ≡ 0
named_one t n e = let f = eqb-false (bit t n) 1 e in let h = bit_below t n in ⊎_elim (λ z. z) (λ o. absurd (f o)) (low (bit t n) h)

-- a set lies below 2 ^ k exactly when every number in it is below k
pub own_from : (k n : ℕ) → n < 2 ^ k → (t : ℕ) → (bit t n == 1) ≡ true → t < k
own_from k n h t e =
    ⊎_elim (λ lt. lt) (λ le. absurd (let z = bit_past k t n h le in let o = eqb-true (bit t n) 1 e in omega (arith, z, o))) (cases_lt t k)

pub own_to : (k n : ℕ) → ((t : ℕ) → (bit t n == 1) ≡ true → t < k) → n < 2 ^ k
own_to k n own =
    below_from k n (λ t le. ⊎_elim (λ z. z) (λ o. absurd (let lt = own t (eq-eqb (bit t n) 1 o) in omega arith)) (low (bit t n) (bit_below t n)))

-- the ones of a word are the numbers in it
pub ones_sized : (n from word : ℕ) → word / 2 ^ from < 2 ^ n → count_ones (word / 2 ^ from) ≡ sized (λ _. 1) from n word
ones_sized zero from word h =
    let z : word / 2 ^ from ≡ 0 = omega arith in
    let o = ones-le 0 (word / 2 ^ from) h in
    omega arith
ones_sized (suc n) from word h =
    let wide : word / 2 ^ from < 2 ^ (n + 1) = rw add-one h in
    let half : word / 2 ^ from / 2 ≡ word / 2 ^ suc from = shr-shr word from 1 ∙ ap (λ z. word / 2 ^ z) (add-one from) in
    let less : word / 2 ^ suc from < 2 ^ n = subst (λ (z : ℕ). z < 2 ^ n) half (shr_below (word / 2 ^ from) n 1 wide) in
    let rest = ones_sized n (suc from) word less in
    let step = ones_step (word / 2 ^ from) in
    let same = ap count_ones half in
    omega (arith, rest, step, same)
