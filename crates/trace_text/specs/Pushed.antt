-- A text that has grown.
use Rattle.std.specs.Prelude.{◌≡◌, ℕ, List, ◌++◌}

-- the later text is the earlier one and then these bytes
pub record Pushed (before later bytes : List ℕ) : Type 0 where
  pub joined : later ≡ before ++ bytes
