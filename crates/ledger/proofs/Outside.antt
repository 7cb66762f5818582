-- What is read where nothing stands.
use Rattle.std.proofs.Common.{◌≡◌, ℕ, zero, suc, get_or, replicate, refl}

pub none_counted : (n kind : ℕ) → ◌≡◌ {A = ℕ} (get_or (replicate n 0) kind 0) 0
none_counted zero kind = refl
none_counted (suc n) zero = refl
none_counted (suc n) (suc kind) = none_counted n kind
