use Rattle.std.proofs.Common.{vec_items, string_bytes, subst}
use Rattle.entries.specs.Entry.{view}
use Rattle.replay.specs.Cards.{number_of, fault_told}
use Rattle.trace_text.specs.Pushed.{Pushed}
use Rattle.game_trace.specs.Steps.{unless_fault}
use Rattle.game_trace.proofs.Stepping.{made_step, granted_lines}
use Rattle.game_trace.proofs.steps.push_step.Goals as goal

pub returns-clause-step : goal.returns-clause-step
returns-clause-step g c =
    let b = g.B.RuleBook.meaning c.args.table.now.book in
    let card = number_of c.args.card in
    let made = c.make_record-made in
    let xs = vec_items c.in_ok-crossings.crossings in
    let lines = granted_lines b c.args.table.now.books c.books.result.now card c.args.place (view c.args.record) c.deref.result.now xs c.books.ensures c.deref.ensures.value c.in_ok-crossings.ensures in
    let told = subst (λ l. Pushed (string_bytes c.args.text.now) (string_bytes c.push_made.new.text) (unless_fault (fault_told made.result) l)) lines c.in_ok-push_made.ensures in
    made_step b c.args.table.now.books card c.args.place (view c.args.record) _ _ made.new.table.books made.result c.ok.result c.ok.ensures.value made.ensures.played told
