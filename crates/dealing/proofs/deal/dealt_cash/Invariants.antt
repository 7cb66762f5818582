use Rattle.std.proofs.Common.{◌≡◌, ◌-◌, ◌≤◌, map, length}
use Rattle.dealing.specs.Opening.{hand_view, dealt_row}
use Rattle.dealing.proofs.deal.dealt_cash.Given as goal

abbrev pub invariant-loop-seat : goal.invariant-loop-seat
invariant-loop-seat l = (map hand_view l.row ≡ dealt_row l.bank (l.seat - 1) l.marks) × (length l.row ≡ 7) × (l.seat - 1 ≤ l.players)
