use Rattle.std.proofs.Common.{◌≡◌, ◌+◌, ◌-◌, ◌∙◌, arith}
use Rattle.text.specs.Text.{shown, added}
use Rattle.statement_text.specs.Statement.{seat_line_of, lines_to}
use Rattle.statement_text.proofs.Adding.{nothing_added, line_added, as_many}
use Rattle.statement_text.proofs.lines.push_seats.Given.{Over}
use Rattle.statement_text.proofs.lines.push_seats.Goals as goal
use Rattle.statement_text.proofs.lines.push_seats.Goals.{After-push_seat}

-- the text after one line more
one_more : (g : Over) (c : After-push_seat g)
    → shown c.push_seat.new.text ≡ added (shown c.args.text.now) (lines_to (seat_line_of (g.B.RuleBook.meaning c.args.book.now) c.args.books.now) c.loop-seat.seat)
one_more g c =
    line_added (seat_line_of (g.B.RuleBook.meaning c.args.book.now) c.args.books.now) c.loop-seat.seat
    (shown c.args.text.now) (shown c.loop-seat.text) (shown c.push_seat.new.text)
    c.loop-seat.auto.seat c.loop-seat.invariant.0 c.push_seat.ensures

pub loop-seat-init : goal.loop-seat-init
loop-seat-init g c = (nothing_added c.args.text.now, omega arith)

pub loop-seat-preserved : goal.loop-seat-preserved
loop-seat-preserved g c =
    let line = seat_line_of (g.B.RuleBook.meaning c.args.book.now) c.args.books.now in
    let k = c.loop-seat.seat in
    (one_more g (goal.at.loop-seat-preserved g c).After-push_seat ∙ as_many line (shown c.args.text.now) k (k + 1 - 1) (omega arith), omega (arith, c.loop-seat-test.true))

-- there is no number
pub returns : goal.returns
returns g c =
    let line = seat_line_of (g.B.RuleBook.meaning c.args.book.now) c.args.books.now in
    c.loop-seat.invariant.0
    ∙ as_many line (shown c.args.text.now) (c.loop-seat.seat - 1) c.args.books.now.players (omega (arith, c.loop-seat-test.false, c.loop-seat.invariant.1))

-- after the last number
pub returns-2 : goal.returns-2
returns-2 g c =
    let line = seat_line_of (g.B.RuleBook.meaning c.args.book.now) c.args.books.now in
    one_more g (goal.at.returns-2 g c).After-push_seat
    ∙ as_many line (shown c.args.text.now) c.loop-seat.seat c.args.books.now.players (omega (arith, c.loop-seat-test.true))
