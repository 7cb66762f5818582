-- A crossing of the code as the rules name it.
use Rattle.std.specs.Prelude.{List, map}
use Rattle.ledger.specs.Crossings.{Crossing as RuleCrossing, pays, hands, moves}
use Rattle.moving.specs.declared.crossing.Crossing.{Crossing}
use Rattle.moving.specs.declared.crossing.Crossing.TheVariants.{Cash, Papers, Trains}

abbrev pub view : Crossing → RuleCrossing
view (Cash giver receiver marks) = pays giver receiver marks
view (Papers company giver receiver certificates) = hands company giver receiver certificates.bits
view (Trains giver receiver load) = moves giver receiver load

abbrev pub listed : List Crossing → List RuleCrossing
listed xs = map view xs
