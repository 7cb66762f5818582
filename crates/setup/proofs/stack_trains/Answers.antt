use Rattle.std.proofs.Common.{◌≡◌, [], ◌∷◌}
use Rattle.kinds.specs.Rolling.{same_trains}
use Rattle.ledger.specs.Holdings.{no_trains}
use Rattle.setup.proofs.stack_trains.Goals as goal

pub returns : goal.returns
returns g c =
    let s = c.stack.ensures in
    let n : c.none-row.result ≡ no_trains = same_trains c.none-row.result no_trains c.none-row.ensures in
    λ i. s i ∷ (n i ∷ (n i ∷ (n i ∷ (n i ∷ (n i ∷ (n i ∷ (n i ∷ (n i ∷ []))))))))
