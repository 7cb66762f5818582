-- Steps that are made one after the other.
use Rattle.std.proofs.Common.{◌≡◌, List, ◌++◌, subst}
use Rattle.ledger.specs.Crossings.{Crossing}
use Rattle.ledger.specs.declared.books.Books.{Books}
use Rattle.moving.specs.Moves.{MoveLaws}

module _ {M : Type 0} {books_of : M → Books} {Moved : M → List Crossing → M → Type 0} (laws : MoveLaws books_of Moved) where
  pub then_moved : (s t u : M) (xs ys zs : List Crossing) → Moved s xs t → Moved t ys u → xs ++ ys ≡ zs → Moved s zs u
  then_moved s t u xs ys zs p q e = subst (λ l. Moved s l u) e (laws.both s t u xs ys p q)
