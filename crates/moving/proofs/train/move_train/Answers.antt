use Rattle.std.proofs.Common.{refl}
use Rattle.moving.proofs.Steps.{then_moved}
use Rattle.moving.proofs.train.move_train.Goals as goal

pub returns : goal.returns
returns g c =
    let laws = g.met.M.Moves.laws in
    then_moved laws _ _ _ _ _ _ c.get_help.ensures
    (then_moved laws _ _ _ _ _ _ c.pay.ensures c.move_trains.ensures refl)
    (rw (c.from.ensures, c.from-2.ensures, c.treasury-treasury.ensures, c.books.ensures, c.train_price-price.ensures))
