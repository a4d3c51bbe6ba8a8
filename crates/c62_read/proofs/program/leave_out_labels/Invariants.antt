use Rattle.c62_read.proofs.Common.{◌≡◌, length, map, lines_of, labels_of, asked_of, missed}
use Rattle.c62_read.proofs.program.leave_out_labels.Given as goal

abbrev pub invariant-loop-line : goal.invariant-loop-line
invariant-loop-line l =
    missed (labels_of (lines_of l.rest)) (map asked_of l.jumps.items) ≡ missed (labels_of (lines_of l.text))
    (map asked_of l.initial.jumps.items)

abbrev pub decreases-loop-line : goal.decreases-loop-line
decreases-loop-line l = length l.rest
