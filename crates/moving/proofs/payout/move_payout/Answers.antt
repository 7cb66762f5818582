use Rattle.moving.proofs.Steps.{then_moved}
use Rattle.moving.proofs.payout.move_payout.Goals as goal

pub returns-in-Some : goal.returns-in-Some
returns-in-Some g c =
    then_moved g.met.M.Moves.laws _ _ _ _ _ _ c.pay_dividends.ensures c.pay.ensures
    (rw (c.treasury-treasury.ensures, c.share_of_company-kept.ensures.value, c.books-books.ensures, c.in-Some.is))
