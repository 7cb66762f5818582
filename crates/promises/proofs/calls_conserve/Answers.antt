use Rattle.promises.proofs.Totals.{calls_keep}
use Rattle.promises.proofs.calls_conserve.Goals as goal

pub returns : goal.returns
returns c = calls_keep
