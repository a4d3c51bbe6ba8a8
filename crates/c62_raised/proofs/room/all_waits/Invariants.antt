use Rattle.std.proofs.Common.{◌≡◌, length}
use Rattle.c62_depend.specs.Plan.{insns_of}
use Rattle.c62_raised.specs.Order.{AreAllWaits}
use Rattle.c62_raised.proofs.room.all_waits.Given as goal

abbrev pub invariant-loop-k : goal.invariant-loop-k
invariant-loop-k l = record {
  long : length l.all ≡ 16;
  are : AreAllWaits (insns_of l.plan) l.k l.all;
}
