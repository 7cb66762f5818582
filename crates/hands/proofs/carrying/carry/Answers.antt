use Rattle.std.proofs.Common.{◌<◌, length, sym, ◌∙◌, length-set, rules}
use Rattle.hands.proofs.Ways.{giver_inside, receiver_inside}
use Rattle.hands.proofs.carrying.carry.Goals as goal

pub offset_bounds-row-giver : goal.offset_bounds-row-giver
offset_bounds-row-giver g c =
    let inside : c.args.giver < length c.args.row.now = giver_inside g.H.Hand.kind c.args.row.now c.args.giver c.args.receiver c.args.load (sym c.can_carry.ensures ∙ c.in_ok-can_carry.was) in
    search rules

pub bounds-row-giver : goal.bounds-row-giver
bounds-row-giver g c = giver_inside g.H.Hand.kind c.args.row.now c.args.giver c.args.receiver c.args.load (sym c.can_carry.ensures ∙ c.in_ok-can_carry.was)

pub offset_bounds-row-receiver : goal.offset_bounds-row-receiver
offset_bounds-row-receiver g c =
    let inside : c.args.receiver < length c.args.row.now = receiver_inside g.H.Hand.kind c.args.row.now c.args.giver c.args.receiver c.args.load (sym c.can_carry.ensures ∙ c.in_ok-can_carry.was) in
    search rules

pub bounds-row-receiver : goal.bounds-row-receiver
bounds-row-receiver g c = rw (length-set c.args.row.now c.args.giver c.give.new.self) (receiver_inside g.H.Hand.kind c.args.row.now c.args.giver c.args.receiver c.args.load (sym c.can_carry.ensures ∙ c.in_ok-can_carry.was))
