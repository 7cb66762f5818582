use Rattle.std.proofs.Common.{◌-◌, ap, slice_set}
use Rattle.kinds.specs.Rolling.{is_given}
use Rattle.kinds.specs.Trains.{held}
use Rattle.kinds.proofs.trains.hand.TrainsHand.give.Goals as goal

pub returns-then-can_give : goal.returns-then-can_give
returns-then-can_give c = is_given c.args.self.now _ c.args.load c.if-can_give.ensures (ap (λ k. slice_set c.args.self.now.counts k (held c.args.self.now k - c.args.load.count)) c.from.ensures)
