use Rattle.c62_depend.proofs.Common.{◌-◌}
use Rattle.c62_depend.proofs.Common.{insns_in}
use Rattle.c62_depend.specs.Direct.{keep_order}
use Rattle.c62_depend.proofs.Walks.{HasThoseBelow}
use Rattle.c62_depend.proofs.direct.ordered.Given as goal
use Rattle.c62_read.specs.declared.limits.TheConstants.{MOST_INSTRUCTIONS}

abbrev pub invariant-loop-i : goal.invariant-loop-i
invariant-loop-i l = HasThoseBelow (λ k. keep_order (insns_in l.uses) k l.j) l.at l.j l.found

abbrev pub decreases-loop-i : goal.decreases-loop-i
decreases-loop-i l = MOST_INSTRUCTIONS - l.at
