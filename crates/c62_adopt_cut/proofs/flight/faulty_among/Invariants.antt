use Rattle.std.proofs.Common.{◌≡◌, length}
use Rattle.std.specs.Prelude.{map}
use Rattle.c62_adopt_cut.specs.Drafted.{draft_of}
use Rattle.c62_adopt_cut.specs.Flight.{faulty_among}
use Rattle.c62_adopt_cut.proofs.flight.faulty_among.Given as goal

abbrev pub invariant-loop-left : goal.invariant-loop-left
invariant-loop-left l =
    faulty_among l.drain (map draft_of l.drafts) l.end (map draft_of l.left) ≡ faulty_among l.drain
    (map draft_of l.drafts) l.end (map draft_of l.drafts)

abbrev pub decreases-loop-left : goal.decreases-loop-left
decreases-loop-left l = length l.left
