use Rattle.c62_depend.specs.Plan.{insns_of}
use Rattle.c62_check.proofs.Kept.{KeepBelow}
use Rattle.c62_check.proofs.early.keep_all.Given as goal

abbrev pub invariant-loop-number : goal.invariant-loop-number
invariant-loop-number l = KeepBelow (insns_of l.plan) l.placed l.number
