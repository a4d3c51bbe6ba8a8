use Rattle.c62_flight.proofs.Flying.{has_one_flight}
use Rattle.c62_flight.proofs.laws.has_one_flight.Goals as goal

pub returns : goal.returns
returns c = has_one_flight
