use Rattle.std.proofs.Common.{refl}
use Rattle.ledger.proofs.Crossed.{all_same_players}
use Rattle.moving.proofs.Steps.{then_moved}
use Rattle.moving.proofs.purchase.move_purchase.Goals as goal

pub returns : goal.returns
returns g c =
    let laws = g.met.M.Moves.laws in
    let books = g.M.Moves.books_of in
    let bought = c.pay_and_receive.ensures in
    let exchanged = c.overtake.ensures in
    then_moved laws _ _ _ _ _ _ bought
    (then_moved laws _ _ _ _ _ _ exchanged c.pay_float.ensures refl)
    (rw (c.is_floating-floating.ensures, c.float_payment-money.ensures, c.books-books.ensures, laws.kept _ _ _ exchanged, all_same_players (books c.pay_and_receive.new.moves), laws.kept _ _ _ bought, all_same_players (books c.args.moves.now)))
