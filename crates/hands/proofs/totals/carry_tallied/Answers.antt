use Rattle.std.proofs.Common.{sym, ap, subst}
use Rattle.hands.specs.Totals.{TotalsKept, ElsewhereSame}
use Rattle.hands.proofs.Kept.{totals_kept, elsewhere_same}
use Rattle.hands.proofs.totals.carry_tallied.Goals as goal

pub returns-clause-totals : goal.returns-clause-totals
returns-clause-totals g c =
    subst (λ r. TotalsKept g.H.Tallied.tallies c.args.row.now r) (ap (λ o. o.1) (sym c.carry.ensures))
    (totals_kept g.H.Hand.kind c.args.row.now c.args.giver c.args.receiver c.args.load g.H.Tallied.tallies g.met.H.Tallied.lawful)

pub returns-clause-elsewhere : goal.returns-clause-elsewhere
returns-clause-elsewhere g c =
    subst (λ r. ElsewhereSame c.args.giver c.args.receiver c.args.row.now r) (ap (λ o. o.1) (sym c.carry.ensures))
    (elsewhere_same g.H.Hand.kind c.args.row.now c.args.giver c.args.receiver c.args.load)
