use Rattle.table.proofs.Compared.{opening_passed, starts_bounded, lives_compared}
use Rattle.table.proofs.life.compare_lives.Goals as goal

pub lead_books-requires : goal.lead_books-requires
lead_books-requires g c =
    let book = c.args.book.now in
    let b = g.B.RuleBook.meaning book in
    starts_bounded b (g.met.B.RuleBook.lawful book) c.args.players c.in_ok-first.first
    (opening_passed b c.args.players _ _ _ c.open_books.ensures c.in_call.ensures c.in_ok-first.was)

pub lead_books-requires-2 : goal.lead_books-requires-2
lead_books-requires-2 g c =
    let book = c.args.book.now in
    let b = g.B.RuleBook.meaning book in
    starts_bounded b (g.met.B.RuleBook.lawful book) c.args.players c.in_ok-second.second
    (opening_passed b c.args.players _ _ _ c.open_books-2.ensures c.in_call-2.ensures c.in_ok-second.was)

pub returns : goal.returns
returns g c =
    let book = c.args.book.now in
    let b = g.B.RuleBook.meaning book in
    lives_compared b (g.met.B.RuleBook.lawful book) c.args.players c.args.one.now c.args.other.now c.in_ok-first.first c.in_ok-second.second c.lead_books.new.books c.lead_books-2.new.books c.same_hands.result
    (opening_passed b c.args.players _ _ _ c.open_books.ensures c.in_call.ensures c.in_ok-first.was)
    (opening_passed b c.args.players _ _ _ c.open_books-2.ensures c.in_call-2.ensures c.in_ok-second.was)
    c.lead_books.ensures
    c.lead_books-2.ensures
    c.same_hands.ensures
