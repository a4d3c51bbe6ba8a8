use Rattle.std.proofs.Common.{arith}
use Rattle.c62_row.proofs.Words.{no-carry}
use Rattle.c62_row.proofs.row.Row.add.Goals as goal

pub sum-requires : goal.sum-requires
sum-requires c = no-carry 0 c.args.self.now c.args.uses.now (omega arith)

pub sum-requires-2 : goal.sum-requires-2
sum-requires-2 c = no-carry 1 c.args.self.now c.args.uses.now (omega arith)

pub sum-requires-3 : goal.sum-requires-3
sum-requires-3 c = no-carry 2 c.args.self.now c.args.uses.now (omega arith)
