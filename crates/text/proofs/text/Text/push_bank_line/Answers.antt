use Rattle.std.proofs.Common.{append_assoc, w32}
use Rattle.std.proofs.lemmas.Int.{to_z-of_z}
use Rattle.text.proofs.Added.{added_added}
use Rattle.text.proofs.text.Text.push_bank_line.Goals as goal

pub returns : goal.returns
returns c =
    rw (c.push.ensures, c.push_signed.ensures, c.push_bytes.ensures, to_z-of_z w32 c.args.cash c.ranges.cash)
    (simp (added_added, append_assoc))
