use Rattle.c62_flight.proofs.Joined.{flies_on}
use Rattle.c62_flight.proofs.laws.flies_on.Goals as goal

pub returns : goal.returns
returns c = flies_on
