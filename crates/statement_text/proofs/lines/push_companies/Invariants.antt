use Rattle.std.proofs.Common.{◌≡◌, ◌-◌, ◌≤◌}
use Rattle.text.specs.Text.{shown, added}
use Rattle.statement_text.specs.Statement.{company_line_of, lines_to}
use Rattle.statement_text.proofs.lines.push_companies.Given as goal

abbrev pub invariant-loop-company : goal.invariant-loop-company
invariant-loop-company g l =
    (shown l.text ≡ added (shown l.initial.text) (lines_to (company_line_of (g.B.RuleBook.meaning l.book) l.books) (l.company - 1)))
    × (l.company - 1 ≤ (g.B.RuleBook.meaning l.book).companies)
