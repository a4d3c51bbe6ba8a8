use Rattle.std.proofs.Common.{length}
use Rattle.c62_explain_packets.proofs.further_listed.without_line.Given as goal

abbrev pub decreases-loop-line : goal.decreases-loop-line
decreases-loop-line l = length l.rest
