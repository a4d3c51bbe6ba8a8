use Rattle.c62_depend.specs.Plan.{insns_of}
use Rattle.c62_check.proofs.Rising.{AreEarlyBelow}
use Rattle.c62_check.proofs.early.all_early.Given as goal

-- what was found of the first numbers
abbrev pub invariant-loop-number : goal.invariant-loop-number
invariant-loop-number l = AreEarlyBelow (insns_of l.plan) l.placed l.number l.all.items
