use Rattle.std.proofs.Common.{◌≡◌, map, take}
use Rattle.c62_loop_match.specs.Parts.{stage_of}
use Rattle.c62_loop_match.specs.Reading.{stage_unlined}
use Rattle.c62_loop_match.proofs.unlined.stages_unlined.Given as goal

abbrev pub invariant-loop-stage : goal.invariant-loop-stage
invariant-loop-stage l = map stage_of l.plain.items ≡ map (λ stage. stage_unlined (stage_of stage))
    (take l.stage-index l.stages)
