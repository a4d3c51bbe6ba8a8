use Rattle.std.proofs.Common.{◌≤◌, length}
use Rattle.c62_check_loops.specs.Settled.{AreTaken}
use Rattle.c62_check_loops.proofs.settled.good_of.Given as goal

-- what is taken of the blocks so far
abbrev pub invariant-loop-number : goal.invariant-loop-number
invariant-loop-number l = AreTaken l.blocks l.loops l.number l.verdicts.items × (l.number ≤ length l.blocks)
