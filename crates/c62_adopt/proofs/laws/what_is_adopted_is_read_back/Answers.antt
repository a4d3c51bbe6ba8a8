use Rattle.c62_adopt.proofs.ReadBackLemmas.{adopts_listings}
use Rattle.c62_adopt.proofs.laws.what_is_adopted_is_read_back.Goals as goal

pub returns : goal.returns
returns c = adopts_listings
