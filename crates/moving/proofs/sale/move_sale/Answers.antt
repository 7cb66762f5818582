use Rattle.std.proofs.Common.{refl}
use Rattle.moving.proofs.Steps.{then_moved}
use Rattle.moving.proofs.sale.move_sale.Goals as goal

pub returns : goal.returns
returns g c =
    let laws = g.met.M.Moves.laws in
    let exchanged = c.exchange_before_sale.ensures in
    then_moved laws _ _ _ _ _ _ exchanged
    (then_moved laws _ _ _ _ _ _ c.pay.ensures c.hand_over.ensures refl)
    (simp (c.from.ensures, c.lowest.ensures, c.certificates-held.ensures, c.papers.ensures, c.seat_papers-seller.ensures, c.books-2.ensures, c.marks-marks.ensures, c.books.ensures, laws.kept _ _ _ exchanged) refl)
