use Rattle.std.proofs.Common.{sym, ◌∙◌}
use Rattle.ledger.proofs.Lowest.{took, skipped, finished}
use Rattle.ledger.proofs.certificates.lowest.Goals as goal
use Rattle.ledger.proofs.certificates.lowest.Goals.{then-left-gt0+then-contains, else-left-gt0, else-left-gt0-via-then-left-gt0+else-contains, else-left-gt0-via-else-left-gt0}

pub loop-number-preserved : goal.loop-number-preserved
loop-number-preserved c =
    let l = c.loop-number in
    elim c.if-left-gt0.branch [
      | then-left-gt0+then-contains w ↦
          took _ l.bits l.left l.number c.args.set.bits c.loop-number-test.true l.invariant.0 l.invariant.1 c.if-left-gt0.bits c.if-left-gt0.left w.bits-is w.left-is w.if-left-gt0.true (sym w.contains.ensures ∙ w.if-contains.true)
      | else-left-gt0 w ↦
          elim w.else-left-gt0.branch [
            | else-left-gt0-via-then-left-gt0+else-contains v ↦
                skipped _ l.bits l.left l.number c.args.set.bits c.loop-number-test.true l.invariant.0 l.invariant.1 c.if-left-gt0.bits c.if-left-gt0.left w.bits-is w.left-is v.if-left-gt0.true (sym v.contains.ensures ∙ v.if-contains.false)
            | else-left-gt0-via-else-left-gt0 v ↦
                finished _ l.bits l.left l.number c.args.set.bits c.loop-number-test.true l.invariant.0 l.invariant.1 c.if-left-gt0.bits c.if-left-gt0.left w.bits-is w.left-is v.if-left-gt0.false
          ]
    ]
