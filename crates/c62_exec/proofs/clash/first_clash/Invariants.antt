use Rattle.std.proofs.Common.{◌≡◌, length}
use Rattle.c62_exec.specs.Step.{clash_in}
use Rattle.c62_exec.proofs.clash.first_clash.Given as goal

abbrev pub invariant-loop-rest : goal.invariant-loop-rest
invariant-loop-rest l = clash_in l.writes ≡ clash_in l.rest

abbrev pub decreases-loop-rest : goal.decreases-loop-rest
decreases-loop-rest l = length l.rest
