use Rattle.c62_depend.proofs.Common.{◌-◌}
use Rattle.c62_depend.proofs.Orders.{AreJoinedBelow}
use Rattle.c62_depend.proofs.direct.ordered_behind.Given as goal
use Rattle.c62_read.specs.declared.limits.TheConstants.{MOST_INSTRUCTIONS}

abbrev pub invariant-loop-k : goal.invariant-loop-k
invariant-loop-k l = AreJoinedBelow l.orders l.found l.at l.joined

abbrev pub decreases-loop-k : goal.decreases-loop-k
decreases-loop-k l = MOST_INSTRUCTIONS - l.at
