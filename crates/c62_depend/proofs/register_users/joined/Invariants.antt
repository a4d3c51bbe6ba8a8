use Rattle.c62_depend.proofs.SetLoops.{AreGathered}
use Rattle.c62_depend.proofs.register_users.joined.Given as goal

abbrev pub invariant-loop-rest : goal.invariant-loop-rest
invariant-loop-rest l = AreGathered l.all l.sets l.fn.registers.bits l.at l.rest

abbrev pub decreases-loop-rest : goal.decreases-loop-rest
decreases-loop-rest l = l.rest
