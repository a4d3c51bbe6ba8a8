use Rattle.std.proofs.Common.{ℕ, ◌<◌, ◌≤◌, drop, get_or, length}
use Rattle.c62_packet.specs.declared.placed.Placed.{Placed}
use Rattle.c62_packet.specs.Taken.{IsTakenBy}
use Rattle.c62_packet.proofs.Broken.{FirstAmong}
use Rattle.c62_packet.proofs.rules.first_broken.Given as goal

abbrev pub invariant-loop-at : goal.invariant-loop-at
invariant-loop-at l = record {
  within : l.at ≤ length l.placed;
  before : (i : ℕ) (d : Placed) → i < l.at → (get_or l.placed i d).cycle ≤ l.taken.cycle;
  taken : IsTakenBy l.taken (drop l.at l.placed);
  found : FirstAmong l.placed (drop l.at l.placed) l.found;
}

abbrev pub decreases-loop-at : goal.decreases-loop-at
decreases-loop-at l = l.at
