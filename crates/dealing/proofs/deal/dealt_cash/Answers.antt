use Rattle.std.proofs.Common.{◌≡◌, Ok, map, ap, ◌∙◌, arith, rules}
use Rattle.hands.specs.Carry.{carried}
use Rattle.kinds.specs.Cash.{cash}
use Rattle.dealing.specs.Opening.{hand_view, dealt_row}
use Rattle.dealing.proofs.Seats.{none_dealt, seat_dealt, seven}
use Rattle.dealing.proofs.deal.dealt_cash.Goals as goal
use Rattle.dealing.proofs.deal.dealt_cash.Goals.{After-carry}

-- the carry of one iteration is granted
granted : (c : After-carry) → (c.carry.result ≡ Ok tt) × (map hand_view c.carry.new.row ≡ dealt_row c.args.bank c.loop-seat.seat c.args.marks)
granted c =
    seat_dealt c.args.bank c.args.players c.loop-seat.seat c.args.marks c.from-in-loop-seat.result c.requires.seated c.requires.enough
    (omega arith) c.loop-seat.auto.seat (omega (arith, c.loop-seat-test.true)) c.from-in-loop-seat.ensures
    c.loop-seat.row c.carry.new.row c.carry.result c.loop-seat.invariant.0
    (c.carry.ensures ∙ ap (λ n. carried cash c.loop-seat.row 0 n c.from-in-loop-seat.result) c.from.ensures)

pub loop-seat-init : goal.loop-seat-init
loop-seat-init c =
    let e = c.undealt-row.ensures ∙ none_dealt c.args.bank c.args.marks in
    (e, seven c.args.bank 0 c.args.marks c.undealt-row.result (omega arith) e, omega arith)

pub unwrap-requires : goal.unwrap-requires
unwrap-requires c = rw (granted (goal.at.unwrap-requires c).After-carry).0 (search rules)

pub loop-seat-preserved : goal.loop-seat-preserved
loop-seat-preserved c =
    let d = granted (goal.at.loop-seat-preserved c).After-carry in
    (d.1 ∙ ap (λ n. dealt_row c.args.bank n c.args.marks) (omega arith), c.carry.auto.row ∙ c.loop-seat.invariant.1, omega arith)

-- no seat: there are no players
pub returns : goal.returns
returns c = c.loop-seat.invariant.0 ∙ ap (λ n. dealt_row c.args.bank n c.args.marks) (omega (arith, c.loop-seat-test.false, c.loop-seat.invariant.2))

-- after the last seat
pub returns-2 : goal.returns-2
returns-2 c =
    let d = granted (goal.at.returns-2 c).After-carry in
    d.1 ∙ ap (λ n. dealt_row c.args.bank n c.args.marks) (omega (arith, c.loop-seat-test.true))
