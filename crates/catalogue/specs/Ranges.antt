-- Both printed books stay in the ranges of a rule book.
use Rattle.std.proofs.Common.{rules}
use Rattle.rulebook.specs.Lawful.{Lawful}
use Rattle.printed.specs.Books.{north, berg}
use Rattle.printed.specs.Steps.{never_right}
use Rattle.catalogue.specs.Printed.{printed_meaning}
use Rattle.catalogue.specs.declared.books.PrintedBook.{PrintedBook}
use Rattle.catalogue.specs.declared.books.PrintedBook.TheVariants.{North, Berg}

north_lawful : Lawful north
north_lawful = search (rules, never_right)

berg_lawful : Lawful berg
berg_lawful = search rules

pub printed_lawful : (b : PrintedBook) → Lawful (printed_meaning b)
printed_lawful North = north_lawful
printed_lawful Berg = berg_lawful
