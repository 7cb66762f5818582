use Rattle.std.proofs.Common.{◌≡◌, ◌+◌, ◌-◌, ◌∙◌, arith}
use Rattle.text.specs.Text.{shown, added}
use Rattle.statement_text.specs.Statement.{company_line_of, lines_to}
use Rattle.statement_text.proofs.Adding.{nothing_added, line_added, as_many}
use Rattle.statement_text.proofs.lines.push_companies.Given.{Over}
use Rattle.statement_text.proofs.lines.push_companies.Goals as goal
use Rattle.statement_text.proofs.lines.push_companies.Goals.{After-push_company}

-- the text after one line more
one_more : (g : Over) (c : After-push_company g)
    → shown c.push_company.new.text ≡ added (shown c.args.text.now) (lines_to (company_line_of (g.B.RuleBook.meaning c.args.book.now) c.args.books.now) c.loop-company.company)
one_more g c =
    line_added (company_line_of (g.B.RuleBook.meaning c.args.book.now) c.args.books.now) c.loop-company.company
    (shown c.args.text.now) (shown c.loop-company.text) (shown c.push_company.new.text)
    c.loop-company.auto.company c.loop-company.invariant.0 c.push_company.ensures

pub loop-company-init : goal.loop-company-init
loop-company-init g c = (nothing_added c.args.text.now, omega arith)

pub loop-company-preserved : goal.loop-company-preserved
loop-company-preserved g c =
    let line = company_line_of (g.B.RuleBook.meaning c.args.book.now) c.args.books.now in
    let k = c.loop-company.company in
    (one_more g (goal.at.loop-company-preserved g c).After-push_company ∙ as_many line (shown c.args.text.now) k (k + 1 - 1) (omega arith), omega (arith, c.loop-company-test.true, c.companies-company-end.ensures))

-- there is no number
pub returns : goal.returns
returns g c =
    let line = company_line_of (g.B.RuleBook.meaning c.args.book.now) c.args.books.now in
    c.loop-company.invariant.0
    ∙ as_many line (shown c.args.text.now) (c.loop-company.company - 1) (g.B.RuleBook.meaning c.args.book.now).companies (omega (arith, c.loop-company-test.false, c.loop-company.invariant.1, c.companies-company-end.ensures))

-- after the last number
pub returns-2 : goal.returns-2
returns-2 g c =
    let line = company_line_of (g.B.RuleBook.meaning c.args.book.now) c.args.books.now in
    one_more g (goal.at.returns-2 g c).After-push_company
    ∙ as_many line (shown c.args.text.now) c.loop-company.company (g.B.RuleBook.meaning c.args.book.now).companies (omega (arith, c.loop-company-test.true, c.companies-company-end.ensures))
