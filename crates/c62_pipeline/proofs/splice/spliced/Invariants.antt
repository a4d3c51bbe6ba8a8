use Rattle.std.proofs.Common.{length}
use Rattle.c62_pipeline.proofs.splice.spliced.Given as goal

abbrev pub decreases-loop-line : goal.decreases-loop-line
decreases-loop-line l = length l.rest
