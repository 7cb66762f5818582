use Rattle.std.proofs.Common.{◌≡◌, ◌-◌, ◌≤◌}
use Rattle.ledger.specs.Holdings.{leader, seat_after}
use Rattle.holdings.proofs.largest_other_of.Given as goal

abbrev pub invariant-loop-seen : goal.invariant-loop-seen
invariant-loop-seen l =
    (l.best ≡ leader l.books l.company l.seat (l._seen - 2))
    × (l.next ≡ seat_after l.books l.seat (l._seen - 1))
    × (l._seen - 2 ≤ l.books.players - 2)
