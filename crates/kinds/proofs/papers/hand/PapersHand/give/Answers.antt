use Rattle.std.proofs.Common.{refl}
use Rattle.kinds.specs.Certificates.{is_given}
use Rattle.kinds.proofs.papers.hand.PapersHand.give.Goals as goal

pub returns-then-can_give : goal.returns-then-can_give
returns-then-can_give c = is_given c.args.self.now _ c.args.load c.if-can_give.ensures refl
