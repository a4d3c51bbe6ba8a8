use Rattle.c62_show.proofs.Stepping.{AreStepsTo}
use Rattle.c62_show.proofs.limits.steps_of.Given as goal

abbrev pub invariant-loop-k : goal.invariant-loop-k
invariant-loop-k l = AreStepsTo l.plan l.path l.steps.items l.k
