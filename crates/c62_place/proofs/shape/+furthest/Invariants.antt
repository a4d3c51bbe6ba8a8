use Rattle.std.proofs.Common.{length}
use Rattle.c62_place.proofs.shape.+furthest.Given as goal

abbrev pub decreases-furthest : goal.decreases-furthest
decreases-furthest l = length l.shapes.now
