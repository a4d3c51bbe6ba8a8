use Rattle.c62_listing_reader.proofs.SameLemmas.{one_reading}
use Rattle.c62_listing_reader.proofs.laws.texts_have_one_reading.Goals as goal

pub returns : goal.returns
returns c = one_reading
