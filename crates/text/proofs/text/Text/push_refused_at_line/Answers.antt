use Rattle.std.proofs.Common.{append_assoc}
use Rattle.text.proofs.Added.{added_added}
use Rattle.text.proofs.text.Text.push_refused_at_line.Goals as goal

pub returns : goal.returns
returns c = rw (c.push.ensures, c.push_number.ensures, c.push_bytes.ensures, c.push_refused.ensures) (simp (added_added, append_assoc))
