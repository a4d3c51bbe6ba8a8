use Rattle.c62_depend.proofs.Common.{◌≡◌, ℕ}
use Rattle.c62_depend.proofs.SetLoops.{AreChanged}
use Rattle.c62_depend.proofs.OpenSets.{IsNoted}
use Rattle.c62_depend.specs.Open.{no_numbers}
use Rattle.c62_depend.proofs.register_users.note.Given as goal

abbrev pub invariant-loop-rest : goal.invariant-loop-rest
invariant-loop-rest l = AreChanged (IsNoted l.fn.k l.fn.clears) l.fn.sets l.sets no_numbers l.fn.registers.bits l.at
    l.rest

abbrev pub decreases-loop-rest : goal.decreases-loop-rest
decreases-loop-rest l = l.rest
