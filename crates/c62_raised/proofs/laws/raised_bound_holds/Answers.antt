use Rattle.c62_raised.proofs.Bound.{raised_bound_holds}
use Rattle.c62_raised.proofs.laws.raised_bound_holds.Goals as goal

pub returns : goal.returns
returns c = raised_bound_holds
