use Rattle.c62_listing_reader.proofs.ReadBackLemmas.{read_back}
use Rattle.c62_listing_reader.proofs.laws.what_is_listed_is_read_back.Goals as goal

pub returns : goal.returns
returns c = read_back
