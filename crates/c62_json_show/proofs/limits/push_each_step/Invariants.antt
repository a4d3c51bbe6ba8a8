use Rattle.std.proofs.Common.{◌≡◌, ◌++◌, drop}
use Rattle.std.specs.List.{flat_map}
use Rattle.c62_json_show.specs.Limits.{step}
use Rattle.c62_json_show.proofs.limits.push_each_step.Given as goal

abbrev pub invariant-loop-step : goal.invariant-loop-step
invariant-loop-step l =
    (l.out.tokens ++ flat_map step (drop l.step-index l.steps) ≡ l.fn.out.tokens ++ flat_map step l.steps)
    × (l.out.before ≡ l.fn.out.before)
