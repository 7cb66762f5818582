-- How many certificates a set has, and how many tenths they are.
use Rattle.std.proofs.Common.{◌≡◌, ℕ, zero, suc, ◌+◌, ◌-◌, ◌*◌, ◌^◌, ◌<◌, ◌≤◌, min, eqb, ◌≢◌, sym, refl, ap, ◌∙◌, ⊎_elim, add-mul, arith, lit<, lit≤}
use native.Mathlib.Nat.{zero-min, min-zero}
use lib.Bits.{bit_and, bit_or, bit_xor}
use Rattle.std.proofs.lemmas.Bool.{eqb-true, eq-eqb, cond-true, cond_both, cases_lt, cases_eq}
use Rattle.kinds.specs.Papers.{bit, sized, size}
use Rattle.kinds.specs.Bits.{by_bits, bit_past, bit_zero, falls, rises, named_one}
use Rattle.ledger.specs.Certificates.{lowest_from, lowest_one, lowest_two, lowest_ordinary}
use Rattle.promises.proofs.Subsets.{apart, joined, lowest_high, lowest_sub, director_out}

-- tenths are certificates, and one more for the director's
twice : (b r : ℕ) → b * 2 + r ≡ b * 1 + r + b
twice b r = omega arith

pub tenths_count : (set : ℕ) → sized size 0 9 set ≡ sized (λ _. 1) 0 9 set + bit 0 set
tenths_count set = twice (bit 0 set) (sized (λ _. 1) 1 8 set)

double : (b r : ℕ) → b * 2 + r ≡ 2 * b + r
double b r = omega arith

pub tenths_ordinary : (set : ℕ) → sized size 0 9 set ≡ 2 * bit 0 set + sized (λ _. 1) 1 8 set
tenths_ordinary set = double (bit 0 set) (sized (λ _. 1) 1 8 set)

-- the sums over two sets
sums : (a b c f x y z : ℕ) → a + b ≡ c → x + y ≡ z → a * f + x + (b * f + y) ≡ c * f + z
sums a b c f x y z e d =
    let m = add-mul a b f in
    let n : (a + b) * f ≡ c * f = ap (λ v. v * f) e in
    omega (arith, m, n, d)

module _ (f : ℕ → ℕ) (p l : ℕ) where
  pub sized_falls_from : (from n : ℕ) → bit_and p l ≡ l → sized f from n (bit_xor p l) + sized f from n l ≡ sized f from n p
  sized_falls_from from zero e = refl
  sized_falls_from from (suc n) e =
      sums (bit from (bit_xor p l)) (bit from l) (bit from p) (f from) (sized f (suc from) n (bit_xor p l)) (sized f (suc from) n l) (sized f (suc from) n p) (falls from p l e) (sized_falls_from (suc from) n e)

  pub sized_rises_from : (from n : ℕ) → bit_and p l ≡ 0 → sized f from n (bit_or p l) ≡ sized f from n p + sized f from n l
  sized_rises_from from zero e = refl
  sized_rises_from from (suc n) e =
      sym (sums (bit from p) (bit from l) (bit from (bit_or p l)) (f from) (sized f (suc from) n p) (sized f (suc from) n l) (sized f (suc from) n (bit_or p l)) (sym (rises from p l e)) (sym (sized_rises_from (suc from) n e)))

  pub sized_falls : bit_and p l ≡ l → sized f 0 9 (bit_xor p l) + sized f 0 9 l ≡ sized f 0 9 p
  sized_falls e = sized_falls_from 0 9 e

  pub sized_rises : bit_and p l ≡ 0 → sized f 0 9 (bit_or p l) ≡ sized f 0 9 p + sized f 0 9 l
  sized_rises e = sized_rises_from 0 9 e

-- one certificate alone
pub one_sized : (f : ℕ → ℕ) (k : ℕ) → k < 9 → sized f 0 9 (2 ^ k) ≡ f k
one_sized f zero h = omega arith
one_sized f (suc zero) h = omega arith
one_sized f (suc (suc zero)) h = omega arith
one_sized f (suc (suc (suc zero))) h = omega arith
one_sized f (suc (suc (suc (suc zero)))) h = omega arith
one_sized f (suc (suc (suc (suc (suc zero))))) h = omega arith
one_sized f (suc (suc (suc (suc (suc (suc zero)))))) h = omega arith
one_sized f (suc (suc (suc (suc (suc (suc (suc zero))))))) h = omega arith
one_sized f (suc (suc (suc (suc (suc (suc (suc (suc zero)))))))) h = omega arith
one_sized f (suc (suc (suc (suc (suc (suc (suc (suc (suc k))))))))) h = absurd (omega arith)

pub with_one_sized : (f : ℕ → ℕ) (k z : ℕ) → k < 9 → sized f 0 9 (2 ^ k + z * 2 ^ suc k) ≡ sized f 0 9 (z * 2 ^ suc k) + f k
with_one_sized f k z h =
    ap (sized f 0 9) (joined k z) ∙ sized_rises f (z * 2 ^ suc k) (2 ^ k) (apart k z) ∙ ap (λ v. sized f 0 9 (z * 2 ^ suc k) + v) (one_sized f k h)

-- the lowest n of a set are n, or all that it has
took_one : (n b r x y : ℕ) → b ≡ 1 → x ≡ min n r → y ≡ x + 1 → y ≡ min (suc n) (b * 1 + r)
took_one n b r x y own e d = omega arith

passed : (n b r x : ℕ) → b ≡ 0 → x ≡ min (suc n) r → x ≡ min (suc n) (b * 1 + r)
passed n b r x none e = omega arith

pub lowest_counted : (n from left set : ℕ) → from + left ≤ 9 → sized (λ _. 1) 0 9 (lowest_from n from left set) ≡ min n (sized (λ _. 1) from left set)
lowest_counted n from zero set h = sym (min-zero n)
lowest_counted zero from (suc left) set h = sym (zero-min (sized (λ _. 1) from (suc left) set))
lowest_counted (suc n) from (suc left) set h =
    let count = sized (λ _. 1) 0 9 in
    let rest = lowest_from n (suc from) left set in
    let others = sized (λ _. 1) (suc from) left set in
    let high = lowest_high n (suc from) left set in
    cond_both (eqb (bit from set) 1) (2 ^ from + rest) (lowest_from (suc n) (suc from) left set) (λ v. count v ≡ min (suc n) (bit from set * 1 + others))
    (λ e.
    let more : count (2 ^ from + rest) ≡ count rest + 1 =
    ap (λ v. count (2 ^ from + v)) high.1 ∙ with_one_sized (λ _. 1) from high.0 (omega arith) ∙ ap (λ v. count v + 1) (sym high.1)
    in
    took_one n (bit from set) others (count rest) (count (2 ^ from + rest)) (eqb-true (bit from set) 1 e) (lowest_counted n (suc from) left set (omega arith)) more)
    (λ e. passed n (bit from set) others (count (lowest_from (suc n) (suc from) left set)) (named_one from set e) (lowest_counted (suc n) (suc from) left set (omega arith)))

pub lowest_count : (n from set : ℕ) → from ≤ 9 → sized (λ _. 1) 0 9 (lowest_from n from (9 - from) set) ≡ min n (sized (λ _. 1) from (9 - from) set)
lowest_count n from set h = lowest_counted n from (9 - from) set (omega arith)

-- in tenths
no_director : (t c b : ℕ) → t ≡ c + b → b ≡ 0 → t ≡ c
no_director t c b e z = omega arith

nothing : (a b : ℕ) → a ≤ b → b ≡ 0 → a ≡ 0
nothing a b h z = omega arith

pub ordinary_tenths : (n set : ℕ) → sized size 0 9 (lowest_ordinary n set) ≡ min n (sized (λ _. 1) 1 8 set)
ordinary_tenths n set =
    let found = lowest_ordinary n set in
    no_director (sized size 0 9 found) (sized (λ _. 1) 0 9 found) (bit 0 found) (tenths_count found) (director_out n set) ∙ lowest_counted n 1 8 set (lit≤ tt)

module _ (set : ℕ) (none : bit 0 set ≡ 0) where
  pub plain_tenths : sized size 0 9 set ≡ sized (λ _. 1) 0 9 set
  plain_tenths = no_director (sized size 0 9 set) (sized (λ _. 1) 0 9 set) (bit 0 set) (tenths_count set) none

  found_none : (n : ℕ) → bit 0 (lowest_from n 0 9 set) ≡ 0
  found_none n = nothing (bit 0 (lowest_from n 0 9 set)) (bit 0 set) (lowest_sub n 0 9 set 0) none

  pub plain_lowest : (n : ℕ) → sized size 0 9 (lowest_from n 0 9 set) ≡ min n (sized size 0 9 set)
  plain_lowest n =
      let found = lowest_from n 0 9 set in
      no_director (sized size 0 9 found) (sized (λ _. 1) 0 9 found) (bit 0 found) (tenths_count found) (found_none n)
      ∙ lowest_counted n 0 9 set (lit≤ tt)
      ∙ ap (min n) (sym plain_tenths)

  pub two_tenths : sized size 0 9 (lowest_two set) ≡ min 2 (sized size 0 9 set)
  two_tenths = plain_lowest 2

-- the director's certificate is the lowest
pub lowest_director : (set : ℕ) → bit 0 set ≡ 1 → lowest_one set ≡ 1
lowest_director set own =
    cond-true (eqb (bit 0 set) 1) (1 + lowest_from 0 1 8 set) (lowest_from 1 1 8 set) (eq-eqb (bit 0 set) 1 own)

-- a set with no certificate is the empty one
no_sum : (b r : ℕ) → b * 1 + r ≡ 0 → (b ≡ 0) × (r ≡ 0)
no_sum b r e = (omega arith, omega arith)

later : (from t : ℕ) → from ≤ t → t ≢ from → suc from ≤ t
later from t low ne = omega arith

shifted : (from n t : ℕ) → t < from + suc n → t < suc from + n
shifted from n t h = omega arith

from_nought : (t : ℕ) → 0 ≤ t
from_nought t = omega arith

nine_below : (t : ℕ) → t < 9 → t < 0 + 9
nine_below t h = omega arith

some : (c : ℕ) → c ≢ 0 → 1 ≤ c
some c ne = omega arith

lone : (c : ℕ) → 1 ≤ c → min 1 c ≡ 1
lone c h = omega arith

none_of : (set from n : ℕ) → sized (λ _. 1) from n set ≡ 0 → (t : ℕ) → from ≤ t → t < from + n → bit t set ≡ 0
none_of set from zero e t low high = absurd (omega arith)
none_of set from (suc n) e t low high =
    let parts = no_sum (bit from set) (sized (λ _. 1) (suc from) n set) e in
    ⊎_elim (λ same. ap (λ u. bit u set) same ∙ parts.0)
    (λ ne. none_of set (suc from) n parts.1 t (later from t low ne) (shifted from n t high))
    (cases_eq t from)

pub count_none : (set : ℕ) → set < 512 → sized (λ _. 1) 0 9 set ≡ 0 → set ≡ 0
count_none set small e =
    by_bits 9 set 0 small (lit< tt) (λ t. ⊎_elim (λ lt. none_of set 0 9 e t (from_nought t) (nine_below t lt)) (λ le. bit_past 9 t set small le) (cases_lt t 9) ∙ sym (bit_zero t))

pub count_some : (set : ℕ) → set < 512 → set ≢ 0 → 1 ≤ sized (λ _. 1) 0 9 set
count_some set small ne = some (sized (λ _. 1) 0 9 set) (λ e. ne (count_none set small e))

pub one_tenth : (set : ℕ) → bit 0 set ≡ 0 → set ≢ 0 → set < 512 → sized size 0 9 (lowest_one set) ≡ 1
one_tenth set none ne small =
    plain_lowest set none 1 ∙ ap (min 1) (plain_tenths set none) ∙ lone (sized (λ _. 1) 0 9 set) (count_some set small ne)
