use Rattle.c62_check.proofs.Least.{packets_seated}
use Rattle.c62_check.proofs.laws.packets_are_seated.Goals as goal

pub returns : goal.returns
returns c = packets_seated
