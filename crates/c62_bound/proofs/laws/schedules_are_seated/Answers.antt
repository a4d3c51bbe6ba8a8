use Rattle.c62_bound.proofs.Seated.{schedules_seated}
use Rattle.c62_bound.proofs.laws.schedules_are_seated.Goals as goal

pub returns : goal.returns
returns c = schedules_seated
