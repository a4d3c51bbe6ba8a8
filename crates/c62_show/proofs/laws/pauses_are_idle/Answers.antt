use Rattle.c62_grid.proofs.Pauses.{idle_until}
use Rattle.c62_show.proofs.laws.pauses_are_idle.Goals as goal

pub returns : goal.returns
returns c = idle_until
