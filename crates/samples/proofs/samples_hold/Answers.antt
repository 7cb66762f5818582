use Rattle.std.proofs.Common.{refl}
use Rattle.std.specs.Fmt.{digits}
use Rattle.samples.proofs.samples_hold.Goals as goal

pub returns : goal.returns
unfolding digits
returns c =
    record {
      north_three = refl;
      berg_six = refl;
      north_seven = refl;
      berg_two = refl;
      unknown_book = refl;
      at_the_floor = refl;
      then_at_the_floor = refl;
      below_the_floor = refl;
      printed = refl;
    }
