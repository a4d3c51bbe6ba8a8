use Rattle.std.proofs.Common.{length}
use Rattle.c62_place.proofs.shape.+furthest_by.Given as goal

abbrev pub decreases-furthest_by : goal.decreases-furthest_by
decreases-furthest_by l = length l.forms.now
