use Rattle.std.proofs.Common.{◌≡◌, take}
use Rattle.c62_loop.specs.Counter.{work_of}
use Rattle.c62_pipeline.specs.Limit.{lines_in}
use Rattle.c62_pipeline.proofs.limit.work_lines.Given as goal

-- the lines of the work among those so far
abbrev pub invariant-loop-entry : goal.invariant-loop-entry
invariant-loop-entry l = l.lines.items ≡ lines_in (work_of l.counter (take l.entry-index l.entries))
