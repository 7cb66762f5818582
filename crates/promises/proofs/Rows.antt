-- Rows that are made of equal parts.
use Rattle.std.proofs.Common.{◌≡◌, ℕ, zero, suc, ◌+◌, ◌*◌, ◌<◌, List, [], ◌∷◌, ◌++◌, get_or, replicate, ℤ, pos, ◌+ℤ◌, sym, refl, ap, suc-mul, zero-mul, arith}
use Rattle.std.proofs.lemmas.Int.{ints}
use Rattle.hands.specs.Tallies.{Tallies}
use Rattle.hands.specs.Totals.{total}

pub total_append : {H L : Type 0} (t : Tallies H L) (xs ys : List H) (tag : ℕ) → total t (xs ++ ys) tag ≡ total t xs tag +ℤ total t ys tag
total_append t [] ys tag = omega (arith, ints)
total_append t (x ∷ xs) ys tag = let r = total_append t xs ys tag in omega (arith, ints)

pub total_replicate : {H L : Type 0} (t : Tallies H L) (n : ℕ) (h : H) (tag m : ℕ) → t.tally h tag ≡ pos m → total t (replicate n h) tag ≡ pos (n * m)
total_replicate t zero h tag m e = let z = zero-mul m in ap pos (sym z)
total_replicate t (suc n) h tag m e =
    let r = total_replicate t n h tag m e in
    let s = suc-mul n m in
    step (t.tally h tag) (total t (replicate n h) tag) m (n * m) (suc n * m) e r s
  where
    step : (a b : ℤ) (m k j : ℕ) → a ≡ pos m → b ≡ pos k → j ≡ k + m → a +ℤ b ≡ pos j
    step a b m k j p q r = omega (arith, ints)

-- what holds of each part, and where nothing stands, holds everywhere
pub everywhere : {A : Type 0} (P : A → Type 0) (n m : ℕ) (x y d : A) → P x → P y → P d → (place : ℕ) → P (get_or (replicate n x ++ replicate m y) place d)
everywhere P zero zero x y d p q r place = r
everywhere P zero (suc m) x y d p q r zero = q
everywhere P zero (suc m) x y d p q r (suc place) = everywhere P zero m x y d p q r place
everywhere P (suc n) m x y d p q r zero = p
everywhere P (suc n) m x y d p q r (suc place) = everywhere P n m x y d p q r place

pub within_first : {A : Type 0} (n m : ℕ) (x y d : A) (place : ℕ) → place < n → get_or (replicate n x ++ replicate m y) place d ≡ x
within_first zero m x y d place h = absurd (omega arith)
within_first (suc n) m x y d zero h = refl
within_first (suc n) m x y d (suc place) h = within_first n m x y d place (omega arith)
