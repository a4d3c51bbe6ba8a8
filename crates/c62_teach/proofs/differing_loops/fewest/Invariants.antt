use Rattle.std.proofs.Common.{◌-◌, length}
use Rattle.c62_teach.proofs.differing_loops.fewest.Given as goal

abbrev pub decreases-loop-index : goal.decreases-loop-index
decreases-loop-index l = length l.fewest.items - l.index
