use Rattle.std.proofs.Common.{length}
use Rattle.c62_place.proofs.shape.+agreeing.Given as goal

abbrev pub decreases-agreeing : goal.decreases-agreeing
decreases-agreeing l = length l.shape.now
