-- The printed books as values: what each answers, and the number of each.
use Rattle.std.specs.Prelude.{ℕ, cond, Some, None, Option, ◌==◌}
use Rattle.rulebook.specs.Book.{Book}
use Rattle.printed.specs.Books.{north, berg}
use Rattle.catalogue.specs.declared.books.PrintedBook.{PrintedBook}
use Rattle.catalogue.specs.declared.books.PrintedBook.TheVariants.{North, Berg}

abbrev pub printed_meaning : PrintedBook → Book
printed_meaning North = north
printed_meaning Berg = berg

-- book 1 is North, book 2 is Berg, and every other book is unknown
abbrev pub numbered : ℕ → Option PrintedBook
numbered number = cond (number == 1) (Some North) (cond (number == 2) (Some Berg) None)
