use Rattle.c62_read.proofs.Common.{◌≡◌, ◌++◌, length, lines_of, labels_of}
use Rattle.c62_lint.proofs.faults.labels_in.Given as goal

abbrev pub invariant-loop-line : goal.invariant-loop-line
invariant-loop-line l = l.labels.items ++ labels_of (lines_of l.rest) ≡ labels_of (lines_of l.text)

abbrev pub decreases-loop-line : goal.decreases-loop-line
decreases-loop-line l = length l.rest
