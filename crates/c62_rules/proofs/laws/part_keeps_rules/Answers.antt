use Rattle.c62_rules.proofs.Parts.{part-keeps, any-order-keeps}
use Rattle.c62_rules.proofs.laws.part_keeps_rules.Goals as goal

pub returns-clause-part : goal.returns-clause-part
returns-clause-part c = part-keeps

pub returns-clause-any_order : goal.returns-clause-any_order
returns-clause-any_order c = any-order-keeps
