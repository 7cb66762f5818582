use Rattle.std.proofs.Common.{◌≡◌, ◌-◌, [], map, get_or, sym, ap, ◌∙◌, arith, w32}
use Rattle.std.proofs.lemmas.Int.{to_z-of_z}
use Rattle.text.specs.Lines.{bank_line, seat_line}
use Rattle.text.specs.Text.{shown, added}
use Rattle.text.proofs.Added.{added_then}
use Rattle.dealing.specs.Opening.{hand_view}
use Rattle.dealing.specs.Listing.{listed}
use Rattle.dealing.proofs.Listed.{bank_first, seat_next}
use Rattle.dealing.proofs.opening.Opening.lines.Goals as goal
use Rattle.dealing.proofs.opening.Opening.lines.Goals.{After-push_seat_line}

-- the text after one more seat's line
one_more : (c : After-push_seat_line) → shown c.push_seat_line.new.self ≡ added [] (listed c.loop-seat.seat (map hand_view c.args.self.now.cash))
one_more c =
    let o = c.args.self.now in
    let seat = c.loop-seat.seat in
    let d = c.index-self-from.result in
    let next = seat_next o.cash d seat c.loop-seat.auto.seat (omega (arith, o.wide, o.seated, c.loop-seat-test.true)) in
    let before = shown c.loop-seat.text in
    let marks = to_z-of_z w32 c.marks-in-loop-seat.result (record { sfits = c.marks-in-loop-seat.type_inv }) ∙ c.marks-in-loop-seat.ensures ∙ ap (λ n. (get_or o.cash n d).marks) c.from.ensures in
    let pushed = c.push_seat_line.ensures ∙ ap (λ m. added before (seat_line seat m 0)) marks in
    added_then [] before (shown c.push_seat_line.new.self) (listed (seat - 1) (map hand_view o.cash)) (seat_line seat (get_or o.cash seat d).marks 0) c.loop-seat.invariant.0 pushed
    ∙ ap (added []) (sym next)

pub loop-seat-init : goal.loop-seat-init
loop-seat-init c =
    let row = c.args.self.now.cash in
    let first = bank_first row c.index-self-0.result (omega (arith, c.args.self.now.wide)) in
    let marks = to_z-of_z w32 c.marks.result (record { sfits = c.marks.type_inv }) ∙ c.marks.ensures in
    let line = bank_line (get_or row 0 c.index-self-0.result).marks in
    (c.push_bank_line.ensures ∙ ap (λ m. added (shown c.empty-text.result) (bank_line m)) marks ∙ ap (λ t. added t line) c.empty-text.ensures ∙ ap (added []) (sym first), omega arith)

pub loop-seat-preserved : goal.loop-seat-preserved
loop-seat-preserved c =
    (one_more (goal.at.loop-seat-preserved c).After-push_seat_line ∙ ap (λ n. added [] (listed n (map hand_view c.args.self.now.cash))) (omega arith), omega (arith, c.loop-seat-test.true))

-- no seat: there are no players
pub returns : goal.returns
returns c = c.loop-seat.invariant.0 ∙ ap (λ n. added [] (listed n (map hand_view c.args.self.now.cash))) (omega (arith, c.loop-seat-test.false, c.loop-seat.invariant.1))

-- after the last seat
pub returns-2 : goal.returns-2
returns-2 c = one_more (goal.at.returns-2 c).After-push_seat_line ∙ ap (λ n. added [] (listed n (map hand_view c.args.self.now.cash))) (omega (arith, c.loop-seat-test.true))
