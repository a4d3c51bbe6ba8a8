use Rattle.std.proofs.Common.{◌≡◌, length}
use Rattle.std.specs.Prelude.{map}
use Rattle.c62_adopt_cut.specs.Drafted.{draft_of, issue_of}
use Rattle.c62_adopt_late.specs.Late.{late_issue}
use Rattle.c62_adopt_late.proofs.late.late_issue.Given as goal

abbrev pub invariant-loop-left : goal.invariant-loop-left
invariant-loop-left l =
    late_issue (map draft_of l.drafts) l.next l.start (map issue_of l.left) ≡ late_issue (map draft_of l.drafts) l.next
    l.start (map issue_of l.issues)

abbrev pub decreases-loop-left : goal.decreases-loop-left
decreases-loop-left l = length l.left
