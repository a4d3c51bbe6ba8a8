use Rattle.c62_listing_reader.proofs.ShownLemmas.{read_exactly}
use Rattle.c62_listing_reader.proofs.laws.listings_alone_are_read.Goals as goal

pub returns : goal.returns
returns c = read_exactly
