-- Places of a list that is seen through a function, and of a list that begins alike.
use Rattle.std.proofs.Common.{◌≡◌, ℕ, zero, suc, List, [], ◌∷◌, ◌++◌, map, set, replicate, Some, refl, ap, arith}
use Rattle.std.specs.List.{slice_get}

pub seen_at : {A B : Type 0} (f : A → B) (xs : List A) (i : ℕ) (y : B) → slice_get (map f xs) i ≡ Some y → (x : A) × (slice_get xs i ≡ Some x) × (f x ≡ y)
seen_at f [] i y e = let z : ◌≡◌ {A = ℕ} 0 1 = cc in absurd (omega arith)
seen_at f (x ∷ xs) zero y e = (x, refl, cc)
seen_at f (x ∷ xs) (suc i) y e = seen_at f xs i y e

pub nth_after : {A : Type 0} (k : ℕ) (x y : A) (ys : List A) → slice_get (replicate k x ++ (y ∷ ys)) k ≡ Some y
nth_after zero x y ys = refl
nth_after (suc k) x y ys = nth_after k x y ys

pub set_after : {A : Type 0} (k : ℕ) (x y : A) (ys : List A) → set (replicate k x ++ (y ∷ ys)) k x ≡ replicate (suc k) x ++ ys
set_after zero x y ys = refl
set_after (suc k) x y ys = ap (λ l. x ∷ l) (set_after k x y ys)
