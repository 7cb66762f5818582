use Rattle.std.proofs.Common.{◌+◌, ap, slice_set}
use Rattle.kinds.specs.Rolling.{is_taken}
use Rattle.kinds.specs.Trains.{held}
use Rattle.kinds.proofs.trains.hand.TrainsHand.take.Goals as goal

pub returns-then-can_take : goal.returns-then-can_take
returns-then-can_take c = is_taken c.args.self.now _ c.args.load c.if-can_take.ensures (ap (λ k. slice_set c.args.self.now.counts k (held c.args.self.now k + c.args.load.count)) c.from.ensures)
