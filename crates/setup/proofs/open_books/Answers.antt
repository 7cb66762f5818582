use Rattle.std.proofs.Common.{◌≡◌, Some, rules}
use Rattle.setup.proofs.Filled.{opening_told}
use Rattle.setup.proofs.open_books.Goals as goal

pub returns : goal.returns
returns g c =
    let told : c.opening_cash.result ≡ Some c.in_ok-cash.cash = search rules in
    opening_told (g.B.RuleBook.meaning c.args.book.now) c.args.players c.in_ok-cash.cash c.opening_cash.result c.opening_books.result c.opening_cash.ensures told c.opening_books.ensures
