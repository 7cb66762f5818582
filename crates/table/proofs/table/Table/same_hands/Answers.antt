use Rattle.table.proofs.Compared.{tables_compared}
use Rattle.table.proofs.table.Table.same_hands.Goals as goal

pub returns : goal.returns
returns g c =
    let one = c.args.self.now in
    let other = c.args.other.now in
    tables_compared (g.B.RuleBook.meaning one.book) (g.B.RuleBook.meaning other.book) (g.met.B.RuleBook.lawful one.book) one.books other.books c.same_hands.result c.same_hands.ensures
