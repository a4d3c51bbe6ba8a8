use Rattle.c62_depend.specs.Plan.{insns_of}
use Rattle.c62_why.proofs.Holding.{AreFree}
use Rattle.c62_why.proofs.held.first_held.Given as goal

abbrev pub invariant-loop-i : goal.invariant-loop-i
invariant-loop-i l = AreFree (insns_of l.plan) l.placed l.j l.i
