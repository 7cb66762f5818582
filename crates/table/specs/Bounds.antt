-- The ranges of a table's books that its calls rest on, and that every call keeps.
use Rattle.std.specs.Prelude.{◌≡◌, ℕ, ◌≤◌, Some}
use Rattle.ledger.specs.declared.books.Books.{Books}

pub record Bounded (s : Books) : Type 0 where
  pub seated : s.players ≤ 6
  pub counted : s.round ≤ 9999
  pub numbered : (n : ℕ) → s.operating.company ≡ Some n → n ≤ 8
