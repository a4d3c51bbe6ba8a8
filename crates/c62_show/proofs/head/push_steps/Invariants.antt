use Rattle.std.proofs.Common.{◌≡◌, ◌++◌, drop}
use Rattle.std.specs.Prelude.{string_bytes}
use Rattle.std.specs.List.{flat_map}
use Rattle.c62_show.specs.Head.{step_words}
use Rattle.c62_show.proofs.head.push_steps.Given as goal

abbrev pub invariant-loop-step : goal.invariant-loop-step
invariant-loop-step l =
    string_bytes l.out ++ flat_map step_words (drop l.step-index l.steps) ≡ string_bytes l.fn.out ++ flat_map step_words
    l.steps
