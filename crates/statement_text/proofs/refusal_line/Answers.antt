use Rattle.std.proofs.Common.{◌≡◌, [], ap, ◌∙◌, arith}
use Rattle.text.specs.Lines.{refused_at_line}
use Rattle.text.specs.Text.{shown, added}
use Rattle.text.proofs.Added.{added_fits}
use Rattle.text.proofs.Bounds.{refused_at_line_bound}
use Rattle.faults.specs.Numbers.{file_number}
use Rattle.statement_text.specs.Buffer.{handed_over}
use Rattle.statement_text.proofs.refusal_line.Goals as goal

pub returns : goal.returns
returns c =
    let n = c.number.result in
    let place = c.args.fault.place in
    let line = refused_at_line n place in
    let short = refused_at_line_bound n place (omega arith) (omega arith) in
    let written : shown c.push_refused_at_line.new.self ≡ refused_at_line (file_number c.args.fault.refusal) place = c.push_refused_at_line.ensures ∙ ap (λ t. added t line) c.empty-text.ensures ∙ added_fits [] line (omega (arith, short)) ∙ ap (λ m. refused_at_line m place) c.number.ensures in
    c.hand_over.ensures ∙ ap (λ t. handed_over t c.args.buffer.now) written
