use Rattle.c62_flight.proofs.Told.{clash_told}
use Rattle.c62_flight.proofs.laws.clashes_are_landings.Goals as goal

pub returns : goal.returns
returns c = clash_told
