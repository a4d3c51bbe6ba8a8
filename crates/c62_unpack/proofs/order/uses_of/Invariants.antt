use Rattle.std.proofs.Common.{◌≡◌, length}
use Rattle.c62_unpack.proofs.order.uses_of.Given as goal

abbrev pub invariant-loop-each : goal.invariant-loop-each
invariant-loop-each l = length l.uses.items ≡ l.each-index
