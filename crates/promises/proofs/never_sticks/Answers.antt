use Rattle.promises.proofs.MovesOn.{never_sticks}
use Rattle.promises.proofs.never_sticks.Goals as goal

pub returns : goal.returns
returns c = never_sticks
