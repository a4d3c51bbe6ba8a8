use Rattle.std.proofs.Common.{◌≡◌, ◌≤◌, ◌+◌, ◌*◌, ◌^◌, length}
use Rattle.std.specs.Prelude.{map}
use Rattle.c62_adopt_cut.specs.Drafted.{draft_of}
use Rattle.c62_adopt_cut.specs.Flight.{all_lacking}
use Rattle.c62_adopt_cut.proofs.flight.all_lacking.Given as goal
use Rattle.c62_read.specs.declared.limits.TheConstants.{MOST_BLOCKS}

abbrev pub invariant-loop-left : goal.invariant-loop-left
invariant-loop-left l = record {
  so_far : l.cycles + all_lacking l.end (map draft_of l.left) ≡ all_lacking l.end (map draft_of l.drafts);
  few : l.cycles + length l.left * 2 ^ 34 ≤ MOST_BLOCKS * 2 ^ 34;
}

abbrev pub decreases-loop-left : goal.decreases-loop-left
decreases-loop-left l = length l.left
