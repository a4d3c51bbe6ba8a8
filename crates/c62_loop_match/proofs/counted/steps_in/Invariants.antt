use Rattle.std.proofs.Common.{◌≡◌, ◌-◌, ◌^◌, take, min}
use Rattle.c62_loop.specs.Counter.{steps_in}
use Rattle.c62_loop_match.proofs.counted.steps_in.Given as goal

-- what the steps so far take off, or the greatest number
abbrev pub invariant-loop-entry : goal.invariant-loop-entry
invariant-loop-entry l = l.steps ≡ min (steps_in l.counter (take l.entry-index l.entries)) (2 ^ 64 - 1)
