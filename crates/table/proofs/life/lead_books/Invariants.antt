use Rattle.std.proofs.Common.{◌≡◌, take, fold}
use Rattle.ledger.specs.Lives.{after}
use Rattle.table.specs.Bounds.{Bounded}
use Rattle.table.proofs.life.lead_books.Given as goal

abbrev pub invariant-loop-call : goal.invariant-loop-call
invariant-loop-call g l =
    (l.books ≡ fold (after (g.B.RuleBook.meaning l.book)) l.initial.books (take l.call-index l.calls))
    × Bounded l.books
