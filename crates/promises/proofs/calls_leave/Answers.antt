use Rattle.promises.proofs.Left.{calls_leave}
use Rattle.promises.proofs.calls_leave.Goals as goal

pub returns : goal.returns
returns c = calls_leave
