use Rattle.text.proofs.Added.{added_added}
use Rattle.text.proofs.text.Text.push_field.Goals as goal

pub returns : goal.returns
returns c = rw (c.push_number.ensures, c.push.ensures) (simp added_added)
