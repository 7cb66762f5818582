use Rattle.std.proofs.Common.{◌≡◌, ◌-◌, ◌≤◌}
use Rattle.text.specs.Text.{shown, added}
use Rattle.statement_text.specs.Statement.{seat_line_of, lines_to}
use Rattle.statement_text.proofs.lines.push_seats.Given as goal

abbrev pub invariant-loop-seat : goal.invariant-loop-seat
invariant-loop-seat g l =
    (shown l.text ≡ added (shown l.initial.text) (lines_to (seat_line_of (g.B.RuleBook.meaning l.book) l.books) (l.seat - 1)))
    × (l.seat - 1 ≤ l.books.players)
