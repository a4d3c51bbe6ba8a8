use Rattle.c62_depend.specs.Plan.{insns_of}
use Rattle.c62_check.proofs.Needs.{KeepsBelow}
use Rattle.c62_check.proofs.early.early_at.Given as goal

-- it comes late enough behind those that were gone over
abbrev pub invariant-loop-other : goal.invariant-loop-other
invariant-loop-other l = KeepsBelow (insns_of l.plan) l.placed l.number l.other
