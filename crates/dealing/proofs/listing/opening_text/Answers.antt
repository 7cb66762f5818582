use Rattle.std.proofs.Common.{[], map, ap, ◌∙◌, arith}
use Rattle.text.specs.Lines.{refused_line}
use Rattle.text.specs.Text.{added}
use Rattle.text.proofs.Added.{added_fits}
use Rattle.text.proofs.Bounds.{refused_line_bound}
use Rattle.dealing.specs.Opening.{hand_view}
use Rattle.dealing.specs.Listing.{listed, opening_text}
use Rattle.dealing.proofs.Listed.{listed_bound}
use Rattle.dealing.proofs.listing.opening_text.Goals as goal

pub returns-in-Ok : goal.returns-in-Ok
returns-in-Ok c =
    let o = c.in-Ok.opening in
    let text = listed o.players (map hand_view o.cash) in
    c.lines.ensures
    ∙ added_fits [] text (let short = listed_bound o.players o.cash (omega (arith, o.wide)) in omega arith)
    ∙ ap opening_text c.in-Ok.ensures

pub returns-in-Err : goal.returns-in-Err
returns-in-Err c =
    let n = c.number.result in
    c.push_refused_line.ensures
    ∙ ap (λ t. added t (refused_line n)) c.empty-text.ensures
    ∙ added_fits [] (refused_line n) (omega (arith, refused_line_bound n (omega arith)))
    ∙ ap refused_line c.number.ensures
    ∙ ap opening_text c.in-Err.ensures
