-- The calls of a file that is played to its end lead to the books that the replay leaves.
use Rattle.std.specs.Prelude.{◌≡◌, ℕ, List, reverse, Some, None}
use Rattle.catalogue.specs.Printed.{printed_meaning}
use Rattle.ledger.specs.Opening.{opened}
use Rattle.promises.specs.Lives.{lived}
use Rattle.replay.specs.Whole.{SeenGame, replayed}
use Rattle.file_calls.specs.Calls.{file_calls}

-- the life that the calls are, the first one first, is that of the replayed table
pub record LifeOfFile (file : List ℕ) (g : SeenGame) : Type 0 where
  pub cash : ℕ
  pub opening : (printed_meaning g.book).opening g.books.players ≡ Some cash
  pub reached : g.books ≡ lived (printed_meaning g.book) (opened (printed_meaning g.book) g.books.players cash) (reverse (file_calls file))

abbrev pub LivesOfFiles : Type 0
LivesOfFiles = (file : List ℕ) (g : SeenGame) → (replayed file).game ≡ Some g → (replayed file).fault ≡ None → LifeOfFile file g
