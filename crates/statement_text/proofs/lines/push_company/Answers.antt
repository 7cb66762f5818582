use Rattle.std.proofs.Common.{not, sym, ap, ◌∙◌}
use Rattle.std.proofs.lemmas.Bool.{cond-false}
use Rattle.text.specs.Text.{shown, added}
use Rattle.statement_text.proofs.Adding.{nothing_added}
use Rattle.statement_text.proofs.lines.push_company.Goals as goal

pub returns-then-holds_director : goal.returns-then-holds_director
returns-then-holds_director g c =
    nothing_added c.args.text.now
    ∙ ap (added (shown c.args.text.now)) (sym (cond-false _ _ _ (ap not (sym c.if-holds_director.ensures))))
