-- The number of each refusal to deal.
use Rattle.std.specs.Prelude.{ℕ}
use Rattle.dealing.specs.declared.refusal.OpeningRefusal.{OpeningRefusal}
use Rattle.dealing.specs.declared.refusal.OpeningRefusal.TheVariants.{NoOpeningCash, UnknownBook}

abbrev pub opening_number : OpeningRefusal → ℕ
opening_number NoOpeningCash = 10
opening_number UnknownBook = 55
