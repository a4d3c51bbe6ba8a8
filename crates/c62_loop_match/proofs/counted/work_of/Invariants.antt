use Rattle.std.proofs.Common.{◌≡◌, take}
use Rattle.c62_loop.specs.Counter.{work_of}
use Rattle.c62_loop_match.proofs.counted.work_of.Given as goal

-- the work among those so far
abbrev pub invariant-loop-entry : goal.invariant-loop-entry
invariant-loop-entry l = l.work.items ≡ work_of l.counter (take l.entry-index l.entries)
