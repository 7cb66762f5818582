use Rattle.std.proofs.Common.{ap, ◌∙◌}
use Rattle.ledger.specs.declared.books.Books.{Books}
use Rattle.moving.proofs.Steps.{then_moved}
use Rattle.moving.proofs.Dividends.{dividend_order}
use Rattle.moving.proofs.payout.pay_dividends.Goals as goal

pub loop-before-preserved : goal.loop-before-preserved
loop-before-preserved g c =
    let laws = g.met.M.Moves.laws in
    let books = g.M.Moves.books_of in
    let start = books c.args.moves.now in
    let l = c.loop-before in
    let marks = c.dividend_of-marks in
    let due = rw c.books-in-loop-before.ensures at marks.ensures.value in
    let paid = c.pay.ensures in (
      then_moved laws _ _ _ _ _ _ l.invariant.0 paid (dividend_order start (books l.moves) c.args.company c.args.dividend l.before marks.result l.invariant.1 due),
      ap (λ (z : Books). z.companies) (laws.kept _ _ _ paid) ∙ l.invariant.1,
    )
