-- A value that can be made only where a test passes, else another.
use Rattle.std.specs.Prelude.{◌≡◌, Bool, true, false, refl}

abbrev pub when : {A : Type 0} → (b : Bool) → (b ≡ true → A) → A → A
when true make other = make refl
when false make other = other
