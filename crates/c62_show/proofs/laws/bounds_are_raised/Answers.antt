use Rattle.c62_show.proofs.Heads.{bound_is_raised}
use Rattle.c62_show.proofs.laws.bounds_are_raised.Goals as goal

pub returns : goal.returns
returns c = bound_is_raised
