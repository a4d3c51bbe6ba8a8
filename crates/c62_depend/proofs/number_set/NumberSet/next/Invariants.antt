use Rattle.c62_depend.proofs.Common.{◌-◌}
use Rattle.c62_depend.proofs.NumberSets.{IsSearched}
use Rattle.c62_depend.proofs.number_set.NumberSet.next.Given as goal
use Rattle.c62_read.specs.declared.limits.TheConstants.{MOST_INSTRUCTIONS}

abbrev pub invariant-loop-at : goal.invariant-loop-at
invariant-loop-at l = IsSearched l.fn.self.words l.fn.from l.at

abbrev pub decreases-loop-at : goal.decreases-loop-at
decreases-loop-at l = MOST_INSTRUCTIONS - l.at
