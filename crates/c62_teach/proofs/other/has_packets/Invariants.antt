use Rattle.std.proofs.Common.{length}
use Rattle.c62_teach.proofs.other.has_packets.Given as goal

abbrev pub decreases-loop-line : goal.decreases-loop-line
decreases-loop-line l = length l.rest
