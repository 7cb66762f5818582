use Rattle.std.proofs.Common.{ap, ◌∙◌}
use Rattle.text.specs.Text.{shown}
use Rattle.statement_text.specs.Buffer.{handed_over}
use Rattle.statement_text.proofs.Lengths.{all_shown}
use Rattle.statement_text.proofs.statement.Goals as goal

pub returns : goal.returns
returns g c =
    let table = c.args.table.now in
    let meaning = g.B.RuleBook.meaning in
    let law = g.met.B.RuleBook.lawful table.book in
    let written = all_shown (meaning table.book) (meaning c.book.result.now) table.books c.books.result.now (shown c.statement_lines-text.result) law table.seated (ap meaning c.book.ensures) c.books.ensures c.statement_lines-text.ensures in
    c.hand_over.ensures ∙ ap (λ t. handed_over t c.args.buffer.now) written
