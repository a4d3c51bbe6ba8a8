use Rattle.c62_flight.proofs.Limits.{under_more}
use Rattle.c62_flight.proofs.laws.limits_only_stop.Goals as goal

pub returns : goal.returns
returns c = under_more
