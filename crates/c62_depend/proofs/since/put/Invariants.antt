use Rattle.c62_depend.proofs.Common.{◌≡◌, ℕ}
use Rattle.c62_depend.proofs.SetLoops.{AreChanged}
use Rattle.c62_depend.proofs.since.put.Given as goal

abbrev pub invariant-loop-rest : goal.invariant-loop-rest
invariant-loop-rest l = AreChanged (λ (old new : ℕ). new ≡ l.fn.number) l.fn.numbers l.numbers 0 l.fn.set.bits l.at
    l.rest

abbrev pub decreases-loop-rest : goal.decreases-loop-rest
decreases-loop-rest l = l.rest
