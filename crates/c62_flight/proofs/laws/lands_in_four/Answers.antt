use Rattle.c62_flight.proofs.LaterPaths.{lands_in_four}
use Rattle.c62_flight.proofs.laws.lands_in_four.Goals as goal

pub returns : goal.returns
returns c = lands_in_four
