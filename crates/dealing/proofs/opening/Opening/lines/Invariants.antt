use Rattle.std.proofs.Common.{◌≡◌, ◌-◌, ◌≤◌, [], map}
use Rattle.text.specs.Text.{shown, added}
use Rattle.dealing.specs.Opening.{hand_view}
use Rattle.dealing.specs.Listing.{listed}
use Rattle.dealing.proofs.opening.Opening.lines.Given as goal

abbrev pub invariant-loop-seat : goal.invariant-loop-seat
invariant-loop-seat l = (shown l.text ≡ added [] (listed (l.seat - 1) (map hand_view l.self.cash))) × (l.seat - 1 ≤ l.self.players)
