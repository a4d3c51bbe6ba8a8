use Rattle.c62_rules.proofs.Twins.{are_in_order}
use Rattle.c62_rules.proofs.laws.twins_in_order.Goals as goal

pub returns : goal.returns
returns c = are_in_order
