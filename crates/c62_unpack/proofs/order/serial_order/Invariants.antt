use Rattle.std.proofs.Common.{length}
use Rattle.c62_unpack.proofs.Orders.{AreTaken}
use Rattle.c62_unpack.proofs.order.serial_order.Given as goal

abbrev pub invariant-loop-taken : goal.invariant-loop-taken
invariant-loop-taken l = AreTaken l.placed l.order.items l.left.items (length l.uses.items) l.taken
