use Rattle.std.proofs.Common.{◌≤◌, length}
use Rattle.c62_check_loops.specs.Reading.{AreFoundNext}
use Rattle.c62_check_loops.proofs.reading.found_within.Given as goal

-- what is found of the blocks so far
abbrev pub invariant-loop-number : goal.invariant-loop-number
invariant-loop-number l = AreFoundNext l.blocks l.reg l.found l.number l.lines.items × (l.number ≤ length l.blocks)
