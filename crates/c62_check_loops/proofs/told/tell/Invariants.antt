use Rattle.std.proofs.Common.{◌≤◌, length, map}
use Rattle.c62_rows.specs.Rows.{text_of}
use Rattle.c62_command.specs.Promises.{trips_of}
use Rattle.c62_check_loops.specs.Told.{AreTold}
use Rattle.c62_check_loops.proofs.told.tell.Given as goal

-- what is told of the blocks so far
abbrev pub invariant-loop-number : goal.invariant-loop-number
invariant-loop-number l = AreTold (map trips_of l.trips) l.loops.promise l.loops.verdicts.items l.starts l.blocks
    (text_of l.read.rows) l.number l.told × (l.number ≤ length l.blocks)
