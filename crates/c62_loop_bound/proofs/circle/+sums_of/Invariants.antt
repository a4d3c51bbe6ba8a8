use Rattle.std.proofs.Common.{length}
use Rattle.c62_loop_bound.proofs.circle.+sums_of.Given as goal

abbrev pub decreases-sums_of : goal.decreases-sums_of
decreases-sums_of l = length l.way.now
