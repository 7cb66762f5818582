use Rattle.std.proofs.Common.{refl}
use Rattle.std.specs.Fmt.{digits}
use Rattle.record_cases.proofs.record_samples_hold.Goals as goal

pub returns : goal.returns
unfolding digits
returns c =
    record {
      two_records = refl;
      no_record = refl;
      cut_body = refl;
      unknown_kind = refl;
      bill_bytes = refl;
      payout_read = refl;
      bill_written = refl;
      bill_refused = refl;
      carry_refused = refl;
    }
