-- The company on turn is one of the book's.
use Rattle.std.proofs.Common.{ℕ, zero, suc, ltb, Some, None, Option, arith}
use Rattle.std.proofs.lemmas.Bool.{cond_both}
use Rattle.rulebook.specs.Book.{Book}
use Rattle.rulebook.specs.Lawful.{Between}
use Rattle.ledger.specs.Holdings.{waiting, price_of, better, next_of}
use Rattle.ledger.specs.declared.books.Books.{Books}

-- a company that is there, if any
abbrev pub OneOf : ℕ → Option ℕ → Type 0
OneOf n None = Unit {0}
OneOf n (Some company) = Between 1 n company

grown : (n : ℕ) (o : Option ℕ) → OneOf n o → OneOf (suc n) o
grown n None p = tt
grown n (Some company) p = (p.0, omega arith)

chosen : (b : Book) (s : Books) (n : ℕ) (o : Option ℕ) → OneOf n o → OneOf (suc n) (better b s o (suc n))
chosen b s n None p = (omega arith, omega arith)
chosen b s n (Some best) p =
    cond_both (ltb (price_of b s best) (price_of b s (suc n))) (Some (suc n)) (Some best) (OneOf (suc n)) (λ _. (omega arith, omega arith)) (λ _. (p.0, omega arith))

pub next_in : (b : Book) (s : Books) (n : ℕ) → OneOf n (next_of b s n)
next_in b s zero = tt
next_in b s (suc n) =
    cond_both (waiting s (suc n)) (better b s (next_of b s n) (suc n)) (next_of b s n) (OneOf (suc n)) (λ _. chosen b s n (next_of b s n) (next_in b s n)) (λ _. grown n (next_of b s n) (next_in b s n))
