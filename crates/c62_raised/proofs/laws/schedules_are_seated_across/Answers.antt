use Rattle.c62_raised.proofs.Seated.{schedules_across}
use Rattle.c62_raised.proofs.laws.schedules_are_seated_across.Goals as goal

pub returns : goal.returns
returns c = schedules_across
