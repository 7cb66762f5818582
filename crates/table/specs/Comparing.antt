-- What the comparison of two lives tells, and what stands at every moment of both.
use Rattle.std.specs.Prelude.{◌≡◌, ℕ, Bool, List, reverse, take, drop, Some, Decides}
use Rattle.rulebook.specs.Book.{Book}
use Rattle.ledger.specs.Opening.{opened}
use Rattle.ledger.specs.declared.books.Books.{Books}
use Rattle.ledger.specs.declared.call.Call.{Call}
use Rattle.promises.specs.Lives.{lived, EqualHands, EqualNets}
use Rattle.promises.specs.Promises.{LivesStand}

-- Two tables are opened alike, and each makes its calls, the first call first. A moment of a life is a part of its calls from the opening on.
pub record Compared (b : Book) (players : ℕ) (one other : List Call) (r : Bool) : Type 0 where
  pub cash : ℕ
  pub opens : b.opening players ≡ Some cash
  pub told : Decides r (EqualHands (lived b (opened b players cash) (reverse one)) (lived b (opened b players cash) (reverse other)))
  pub moments : (i j : ℕ) → LivesStand b (opened b players cash) (reverse (take i one)) (reverse (take j other))
  pub moments_turned : (i j : ℕ) → LivesStand b (opened b players cash) (reverse (take j other)) (reverse (take i one))

-- Two tables that live by the same rule book from the same opening on, the latest call first: whether they are equal in every hand tells
-- whether receipts less gifts agree, hand by hand and tag by tag, and at every moment of both lives the promises stand.
pub record ToldOfLives (b : Book) (start : Books) (one other : List Call) (r : Bool) : Type 0 where
  pub nets : Decides r (EqualNets b start one other)
  pub moments : (i j : ℕ) → LivesStand b start (drop i one) (drop j other)
  pub moments_turned : (i j : ℕ) → LivesStand b start (drop j other) (drop i one)

-- Two tables are equal in every hand or not. Where both live by the same rule book from the same opening on, that tells whether receipts
-- less gifts agree, hand by hand and tag by tag; and so much more is told of all lives that lead to their books.
pub record TablesCompared (b d : Book) (s t : Books) (r : Bool) : Type 0 where
  pub hands : Decides r (EqualHands s t)
  pub nets :
      (players cash : ℕ) (one other : List Call) → d ≡ b → b.opening players ≡ Some cash
      → s ≡ lived b (opened b players cash) one
      → t ≡ lived d (opened d players cash) other
      → Decides r (EqualNets b (opened b players cash) one other)
  pub lives :
      (players cash : ℕ) (one other : List Call) → d ≡ b → b.opening players ≡ Some cash
      → s ≡ lived b (opened b players cash) one
      → t ≡ lived d (opened d players cash) other
      → ToldOfLives b (opened b players cash) one other r
