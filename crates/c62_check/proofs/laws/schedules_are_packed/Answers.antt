use Rattle.c62_check.proofs.Lined.{schedules_packed}
use Rattle.c62_check.proofs.laws.schedules_are_packed.Goals as goal

pub returns : goal.returns
returns c = schedules_packed
