use Rattle.std.proofs.Common.{◌≡◌, map, take}
use Rattle.c62_loop_match.proofs.decision.kernels.Given as goal

abbrev pub invariant-loop-stage : goal.invariant-loop-stage
invariant-loop-stage l = l.placed.items ≡ map (λ stage. stage.kernel) (take l.stage-index l.stages)
