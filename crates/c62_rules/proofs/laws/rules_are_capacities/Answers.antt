use Rattle.c62_rules.proofs.Capacities.{the-rules}
use Rattle.c62_rules.proofs.laws.rules_are_capacities.Goals as goal

pub returns : goal.returns
returns c = the-rules
