use Rattle.promises.proofs.Carried.{calls_carry}
use Rattle.promises.proofs.calls_carry.Goals as goal

pub returns : goal.returns
returns c = calls_carry
