use Rattle.std.proofs.Common.{◌≡◌}
use Rattle.ledger.specs.Operating.{dividends}
use Rattle.moving.proofs.payout.pay_dividends.Given as goal

abbrev pub invariant-loop-before : goal.invariant-loop-before
invariant-loop-before g l =
    let books = g.M.Moves.books_of in
    g.M.Moves.Moved l.initial.moves (dividends (books l.initial.moves) l.company l.dividend 1 l.before) l.moves
    × ((books l.moves).companies ≡ (books l.initial.moves).companies)
