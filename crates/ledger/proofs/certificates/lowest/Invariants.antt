use Rattle.std.proofs.Common.{◌≡◌, ◌+◌, ◌-◌, ◌^◌, ◌<◌}
use Rattle.ledger.specs.Certificates.{lowest_from}
use Rattle.ledger.proofs.certificates.lowest.Given as goal

abbrev pub invariant-loop-number : goal.invariant-loop-number
invariant-loop-number l =
    (lowest_from l.count l.from (9 - l.from) l.set.bits ≡ l.bits + lowest_from l.left l.number (9 - l.number) l.set.bits)
    × (l.bits < 2 ^ l.number)
