use Rattle.entries.proofs.OneWriting.{single_records}
use Rattle.gamefile.proofs.reading.read.Goals as goal

pub returns-in_err-record-clause-laws : goal.returns-in_err-record-clause-laws
returns-in_err-record-clause-laws c = single_records

pub returns-clause-laws : goal.returns-clause-laws
returns-clause-laws c = single_records
