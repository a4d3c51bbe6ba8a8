use Rattle.std.proofs.Common.{◌≡◌, length}
use Rattle.c62_depend.specs.Plan.{insns_of}
use Rattle.c62_read.specs.declared.limits.TheConstants.{MOST_INSTRUCTIONS}
use Rattle.c62_raised.specs.Order.{AreWaits}
use Rattle.c62_raised.proofs.room.waits_of.Given as goal

abbrev pub invariant-loop-j : goal.invariant-loop-j
invariant-loop-j l = record {
  long : length l.waits ≡ MOST_INSTRUCTIONS;
  are : AreWaits (insns_of l.plan) l.room l.j l.waits;
}
