use Rattle.c62_rules.proofs.OneLanding.{one_landing}
use Rattle.c62_rules.proofs.laws.bounds_keep_landings.Goals as goal

pub returns : goal.returns
returns c = one_landing
