use Rattle.std.proofs.Common.{rules, ◌-◌, ◌^◌}
use Rattle.c62_loop_match.proofs.Steps.{steps_next}
use Rattle.c62_loop_match.proofs.counted.steps_in.Goals as goal

pub loop-entry-preserved : goal.loop-entry-preserved
loop-entry-preserved c =
    steps_next c.args.counter c.args.entries.now c.loop-entry.entry-index c.entry-item.result c.loop-entry.steps
    c.saturating_add-steps.result (2 ^ 64 - 1) c.loop-entry-test.true c.loop-entry.invariant (search rules)
