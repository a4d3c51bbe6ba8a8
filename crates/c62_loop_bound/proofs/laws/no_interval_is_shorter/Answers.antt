use Rattle.c62_loop_bound.proofs.Shorter.{none_shorter}
use Rattle.c62_loop_bound.proofs.laws.no_interval_is_shorter.Goals as goal

pub returns : goal.returns
returns c = none_shorter
