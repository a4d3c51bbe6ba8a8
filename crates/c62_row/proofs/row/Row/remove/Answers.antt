use Rattle.std.proofs.Common.{arith}
use Rattle.c62_row.proofs.Words.{no-borrow}
use Rattle.c62_row.proofs.row.Row.remove.Goals as goal

pub difference-requires : goal.difference-requires
difference-requires c = no-borrow 0 c.args.self.now c.args.uses.now (omega arith) c.requires

pub difference-requires-2 : goal.difference-requires-2
difference-requires-2 c = no-borrow 1 c.args.self.now c.args.uses.now (omega arith) c.requires

pub difference-requires-3 : goal.difference-requires-3
difference-requires-3 c = no-borrow 2 c.args.self.now c.args.uses.now (omega arith) c.requires
