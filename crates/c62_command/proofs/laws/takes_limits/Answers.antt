use Rattle.c62_command.proofs.Limits.{takes_limits}
use Rattle.c62_command.proofs.laws.takes_limits.Goals as goal

pub returns : goal.returns
returns c = takes_limits
