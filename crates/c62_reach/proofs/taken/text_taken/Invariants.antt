use Rattle.std.proofs.Common.{◌≡◌, ◌++◌, length}
use Rattle.c62_read.specs.Text.{lines_of}
use Rattle.c62_reach.specs.Ended.{ended_lines}
use Rattle.c62_reach.specs.Taken.{taken_below, text_taken}
use Rattle.c62_reach.proofs.taken.text_taken.Given as goal

abbrev pub invariant-loop-line : goal.invariant-loop-line
invariant-loop-line l =
    l.taken.items ++ taken_below l.site.here l.site.below.now (ended_lines l.rest) (lines_of l.other)
    ≡ text_taken l.marks (ended_lines l.text) (lines_of l.fn.spelled)

abbrev pub decreases-loop-line : goal.decreases-loop-line
decreases-loop-line l = length l.rest
