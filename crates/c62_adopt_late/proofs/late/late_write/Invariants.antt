use Rattle.std.proofs.Common.{◌≡◌, length}
use Rattle.std.specs.Prelude.{map}
use Rattle.c62_adopt_cut.specs.Drafted.{draft_of}
use Rattle.c62_adopt_late.specs.Late.{late_write}
use Rattle.c62_adopt_late.proofs.late.late_write.Given as goal

abbrev pub invariant-loop-left : goal.invariant-loop-left
invariant-loop-left l =
    late_write (map draft_of l.drafts) l.next l.line l.cycle l.left ≡ late_write (map draft_of l.drafts) l.next l.line
    l.cycle l.writes

abbrev pub decreases-loop-left : goal.decreases-loop-left
decreases-loop-left l = length l.left
