use Rattle.c62_listing_reader.proofs.ListedLemmas.{listed}
use Rattle.c62_listing_reader.proofs.laws.what_is_read_is_listed_back.Goals as goal

pub returns : goal.returns
returns c = listed
