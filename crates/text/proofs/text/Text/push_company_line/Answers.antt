use Rattle.std.proofs.Common.{append_assoc, w32}
use Rattle.std.proofs.lemmas.Int.{to_z-of_z}
use Rattle.text.proofs.Added.{added_added}
use Rattle.text.proofs.text.Text.push_company_line.Goals as goal

pub returns : goal.returns
returns c =
    rw (c.push-2.ensures, c.push_field-4.ensures, c.from-5.ensures, c.push_field-3.ensures, c.from-4.ensures, c.push_field-2.ensures, c.from-3.ensures, c.push_field.ensures, c.from-2.ensures)
    (rw (c.push_signed.ensures, to_z-of_z w32 c.args.cash c.ranges.cash, c.push.ensures, c.push_number.ensures, c.from.ensures, c.push_bytes.ensures)
    (simp added_added (simp append_assoc)))
