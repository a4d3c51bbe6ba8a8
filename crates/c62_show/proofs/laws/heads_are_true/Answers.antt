use Rattle.c62_show.proofs.Heads.{head_is_true, head_is_true_of_schedules}
use Rattle.c62_show.proofs.laws.heads_are_true.Goals as goal

pub returns-clause-seated : goal.returns-clause-seated
returns-clause-seated c = head_is_true

pub returns-clause-lawful : goal.returns-clause-lawful
returns-clause-lawful c = head_is_true_of_schedules
