use Rattle.c62_why.specs.Taken.{IsEnoughFor}
use Rattle.c62_why.proofs.Holding.{AreFirst}
use Rattle.c62_why.proofs.taken.first_taken.Given as goal

abbrev pub invariant-loop-resource : goal.invariant-loop-resource
invariant-loop-resource l = AreFirst (IsEnoughFor l.placed l.one) l.resource-items l.resource-index
