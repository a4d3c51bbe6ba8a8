use Rattle.std.proofs.Common.{◌≤◌, length}
use Rattle.c62_rows.specs.Rows.{text_of}
use Rattle.c62_check_loops.specs.Verdicts.{AreLoopVerdicts}
use Rattle.c62_check_loops.proofs.verdict.verdicts_of.Given as goal

-- what is told of the blocks so far
abbrev pub invariant-loop-number : goal.invariant-loop-number
invariant-loop-number l = AreLoopVerdicts l.promise l.blocks (text_of l.read.rows) l.number l.verdicts.items
    × (l.number ≤ length l.blocks)
