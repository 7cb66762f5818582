-- A kind of hand, H, that is carried in loads, L: the four things that carry asks of it.
use Rattle.std.specs.Prelude.{Bool}

pub record Kind (H L : Type 0) : Type 0 where
  pub can_give : H → L → Bool
  pub can_take : H → L → Bool
  pub given : H → L → H
  pub taken : H → L → H
