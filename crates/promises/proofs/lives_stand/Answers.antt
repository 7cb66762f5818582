use Rattle.promises.proofs.Whole.{all_lives_stand}
use Rattle.promises.proofs.lives_stand.Goals as goal

pub returns : goal.returns
returns c = all_lives_stand
