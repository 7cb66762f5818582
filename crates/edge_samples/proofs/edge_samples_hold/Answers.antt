use Rattle.std.proofs.Common.{refl}
use Rattle.std.specs.Fmt.{digits}
use Rattle.edge_samples.proofs.edge_samples_hold.Goals as goal

pub returns : goal.returns
unfolding digits
returns c =
    record {
      printed = refl;
      north_three = (refl, refl);
      seven_players = (refl, refl, refl);
      berg_six = (refl, refl);
      reaches_three = (refl, refl, refl, refl, refl);
      reaches_four = (refl, refl, refl, refl, refl);
      lone_director_sells = (refl, refl, refl);
      pool_of_four = (refl, refl, refl, refl);
      at_the_floor = refl;
      below_the_floor = (refl, refl);
    }
