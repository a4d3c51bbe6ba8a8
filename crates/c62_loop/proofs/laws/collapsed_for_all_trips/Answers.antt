use Rattle.c62_loop.proofs.Collapsed.{collapsed_for_all_trips}
use Rattle.c62_loop.proofs.laws.collapsed_for_all_trips.Goals as goal

pub returns : goal.returns
returns c = collapsed_for_all_trips
