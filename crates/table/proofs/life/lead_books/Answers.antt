use Rattle.std.proofs.Common.{get_or, fold, sym, ap, ◌∙◌, take_all}
use Rattle.std.proofs.lemmas.List.Sums.{fold_more}
use Rattle.ledger.specs.Lives.{after}
use Rattle.ledger.specs.declared.books.Books.{Books}
use Rattle.ledger.specs.declared.call.Call.TheVariants.{Sell}
use Rattle.table.proofs.Ranges.{kept_bounded}
use Rattle.table.proofs.life.lead_books.Goals as goal

pub loop-call-preserved : goal.loop-call-preserved
loop-call-preserved g c =
    let b = g.B.RuleBook.meaning c.args.book.now in
    let law = g.met.B.RuleBook.lawful c.args.book.now in
    let l = c.loop-call in
    let calls = c.args.calls.now in
    let other = Sell 0 0 0 0 in
    let made = c.make in (
      made.ensures.made ∙ ap (λ (z : Books). after b z (get_or calls l.call-index other)) l.invariant.0 ∙ sym (fold_more (after b) c.args.books.now calls l.call-index other c.loop-call-test.true),
      kept_bounded b law l.books l.invariant.1 _ made.new.books made.ensures.made,
    )

pub returns : goal.returns
returns g c =
    c.loop-call.invariant.0 ∙ ap (fold (after (g.B.RuleBook.meaning c.args.book.now)) c.args.books.now) (take_all _ _ c.loop-call-test.false)
