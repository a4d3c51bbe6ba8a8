use Rattle.c62_bound.proofs.Rooms.{reaches_paths}
use Rattle.c62_bound.proofs.laws.needs_reach_paths.Goals as goal

pub returns : goal.returns
returns c = reaches_paths
