use Rattle.moving.proofs.Steps.{then_moved}
use Rattle.moving.proofs.director.exchange_director.Goals as goal

pub returns : goal.returns
returns g c =
    then_moved g.met.M.Moves.laws _ _ _ _ _ _ c.hand_over.ensures c.hand_over-2.ensures
    (rw (c.lowest-two.ensures, c.certificates.ensures, c.papers.ensures, c.seat_papers-new.ensures, c.seat_papers-old.ensures, c.books.ensures))
