use Rattle.std.proofs.Common.{◌≡◌, ◌++◌}
use Rattle.c62_trace.specs.Line.{blanks}
use Rattle.c62_trace.proofs.line.push_blanks.Given as goal

abbrev pub invariant-loop-left : goal.invariant-loop-left
invariant-loop-left l = l.out.items ++ blanks l.left ≡ l.fn.out.items ++ blanks l.count

abbrev pub decreases-loop-left : goal.decreases-loop-left
decreases-loop-left l = l.left
