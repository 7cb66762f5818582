use Rattle.std.proofs.Common.{w32}
use Rattle.std.proofs.lemmas.Int.{to_z-of_z}
use Rattle.text.proofs.Added.{added_added}
use Rattle.statement_text.proofs.lines.statement_lines.Goals as goal

pub returns : goal.returns
returns g c =
    rw (c.push_companies.ensures, c.push_seats.ensures, c.push_bank_line.ensures, to_z-of_z w32 c.marks.result (record { sfits = c.marks.type_inv }), c.marks.ensures, c.empty-text.ensures)
    (simp added_added)
