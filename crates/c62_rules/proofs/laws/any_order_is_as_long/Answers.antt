use Rattle.c62_rules.proofs.Lengths.{any-order-length}
use Rattle.c62_rules.proofs.laws.any_order_is_as_long.Goals as goal

pub returns : goal.returns
returns c = any-order-length
