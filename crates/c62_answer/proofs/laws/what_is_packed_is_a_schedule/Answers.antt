use Rattle.c62_answer.proofs.PackedSame.{packs_schedules}
use Rattle.c62_answer.proofs.laws.what_is_packed_is_a_schedule.Goals as goal

pub returns : goal.returns
returns c = packs_schedules
