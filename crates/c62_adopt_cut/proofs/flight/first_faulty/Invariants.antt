use Rattle.std.proofs.Common.{◌≡◌, length}
use Rattle.std.specs.Prelude.{map}
use Rattle.c62_adopt_cut.specs.Drafted.{draft_of, issue_of}
use Rattle.c62_adopt_cut.specs.Flight.{first_faulty}
use Rattle.c62_adopt_cut.proofs.flight.first_faulty.Given as goal

abbrev pub invariant-loop-left : goal.invariant-loop-left
invariant-loop-left l =
    first_faulty (map draft_of l.drafts) l.start l.over (map issue_of l.left) ≡ first_faulty (map draft_of l.drafts)
    l.start l.over (map issue_of l.issues)

abbrev pub decreases-loop-left : goal.decreases-loop-left
decreases-loop-left l = length l.left
