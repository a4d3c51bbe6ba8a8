use Rattle.c62_adopt_back.proofs.Listed.{listings_stay}
use Rattle.c62_adopt_back.proofs.laws.listings_are_adopted_as_themselves.Goals as goal

pub returns : goal.returns
returns c = listings_stay
