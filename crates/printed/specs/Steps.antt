-- Many steps left at once.
use Rattle.std.specs.Prelude.{◌≡◌, ℕ, zero, suc, ◌-◌, ◌≤◌, refl}
use Rattle.std.proofs.Common.{ap, ◌∙◌, arith}
use Rattle.printed.specs.Figures.{step_left, steps_left}

one_left : (space : ℕ) → step_left space ≡ space - 1
one_left zero = refl
one_left (suc space) = omega arith

pub steps_at_once : (n space : ℕ) → steps_left n space ≡ space - n
steps_at_once zero space = omega arith
steps_at_once (suc n) space = ap step_left (steps_at_once n space) ∙ one_left (space - n) ∙ omega arith

pub never_right : (n space : ℕ) → steps_left n space ≤ space
never_right n space = let e = steps_at_once n space in omega arith
