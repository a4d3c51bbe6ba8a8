use Rattle.std.proofs.Common.{length}
use Rattle.c62_explain.proofs.help.line_with_label.Given as goal

abbrev pub decreases-loop-line : goal.decreases-loop-line
decreases-loop-line l = length l.rest
