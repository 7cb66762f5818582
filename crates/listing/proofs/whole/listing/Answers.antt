use Rattle.entries.proofs.WholeFile.{whole_files}
use Rattle.listing.proofs.whole.listing.Goals as goal

pub returns-in_err-push_listing-clause-whole : goal.returns-in_err-push_listing-clause-whole
returns-in_err-push_listing-clause-whole c = whole_files

pub returns-clause-whole : goal.returns-clause-whole
returns-clause-whole c = whole_files
