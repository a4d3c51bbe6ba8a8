use Rattle.c62_depend.proofs.Common.{◌-◌}
use Rattle.c62_depend.proofs.Linked.{AreLinkedTo}
use Rattle.c62_depend.proofs.direct.link.Given as goal
use Rattle.c62_read.specs.declared.limits.TheConstants.{MOST_INSTRUCTIONS}

abbrev pub invariant-loop-i : goal.invariant-loop-i
invariant-loop-i l = AreLinkedTo l.uses l.j l.at l.needs.items l.followers

abbrev pub decreases-loop-i : goal.decreases-loop-i
decreases-loop-i l = MOST_INSTRUCTIONS - l.at
