use Rattle.c62_exec_back.proofs.Flying.{listings_fly}
use Rattle.c62_exec_back.proofs.laws.listings_fly.Goals as goal

pub returns : goal.returns
returns c = listings_fly
