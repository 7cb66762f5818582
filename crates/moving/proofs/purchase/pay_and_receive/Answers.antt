use Rattle.moving.proofs.Steps.{then_moved}
use Rattle.moving.proofs.purchase.pay_and_receive.Goals as goal

pub returns : goal.returns
returns g c =
    then_moved g.met.M.Moves.laws _ _ _ _ _ _ c.pay.ensures c.hand_over.ensures
    (rw (c.from.ensures, c.payee-payee.ensures, c.cost-marks.ensures, c.from-giver.ensures, c.seat_papers-receiver.ensures, c.lowest-load.ensures, c.source_set.ensures, c.books-books.ensures))
