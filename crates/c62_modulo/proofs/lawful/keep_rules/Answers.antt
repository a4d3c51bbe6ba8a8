use Rattle.c62_modulo.proofs.Orders.{listed}
use Rattle.c62_modulo.proofs.lawful.keep_rules.Goals as goal

pub first_broken-requires-clause-in_order : goal.first_broken-requires-clause-in_order
first_broken-requires-clause-in_order c = listed c.args.insns.now c.requires.cycles c.requires.in_order
