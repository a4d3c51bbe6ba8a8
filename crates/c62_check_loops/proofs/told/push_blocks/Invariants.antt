use Rattle.std.proofs.Common.{◌≡◌, ◌++◌, drop}
use Rattle.c62_check_loops.specs.Lines.{lines_from}
use Rattle.c62_check_loops.proofs.told.push_blocks.Given as goal

-- with the lines of the others it is the whole
abbrev pub invariant-loop-number : goal.invariant-loop-number
invariant-loop-number l =
    l.out.items ++ lines_from l.blocks l.number (drop l.number l.verdicts)
    ≡ l.fn.out.items ++ lines_from l.blocks 0 l.verdicts
