use Rattle.std.proofs.Common.{◌≡◌, ◌-◌, ap, ◌∙◌, arith}
use Rattle.ledger.specs.Holdings.{leader}
use Rattle.holdings.proofs.Steps.{seat_seen, gives_way, stays}
use Rattle.holdings.proofs.largest_other_of.Goals as goal
use Rattle.holdings.proofs.largest_other_of.Goals.{then-seat_tenths, else-seat_tenths}

pub loop-seen-preserved : goal.loop-seen-preserved
loop-seen-preserved c =
    let s = c.args.books.now in
    let company = c.args.company in
    let seat = c.args.seat in
    let l = c.loop-seen in
    let next = c.next_seat-next-in-loop-seen in
    let held = c.seat_tenths in
    let more = c.seat_tenths-in-loop-seen in (
      elim c.if-seat_tenths.branch [
        | then-seat_tenths w ↦ w.best-is ∙ gives_way s company seat l._seen l.next l.auto._seen next.result l.invariant.1 next.ensures l.best l.invariant.0 held.result more.result held.ensures more.ensures w.if-seat_tenths.true
        | else-seat_tenths w ↦ w.best-is ∙ stays s company seat l._seen l.next l.auto._seen next.result l.invariant.1 next.ensures l.best l.invariant.0 held.result more.result held.ensures more.ensures w.if-seat_tenths.false
      ],
      seat_seen s company seat l._seen l.next l.auto._seen next.result l.invariant.1 next.ensures,
      omega (arith, c.loop-seen-test.true),
    )

pub returns : goal.returns
returns c =
    let l = c.loop-seen in
    let s = c.args.books.now in
    let all : l._seen - 2 ≡ s.players - 2 = omega (arith, l.invariant.2, c.loop-seen-test.false) in
    l.invariant.0 ∙ ap (leader s c.args.company c.args.seat) all
