use Rattle.std.proofs.Common.{◌≡◌, ◌++◌, take}
use Rattle.std.specs.List.{flat_map}
use Rattle.c62_loop_match.proofs.decision.in_prolog.Given as goal

abbrev pub invariant-loop-stage : goal.invariant-loop-stage
invariant-loop-stage l = l.placed.items ≡ (l.control.early.items ++ l.schedule.before.items) ++ flat_map
    (λ stage. stage.early.items) (take l.stage-index l.schedule.stages.items)
