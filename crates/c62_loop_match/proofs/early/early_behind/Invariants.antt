use Rattle.std.proofs.Common.{ℕ, ◌<◌, ◌≤◌}
use Rattle.c62_pair.specs.Uses.{insns_in}
use Rattle.c62_loop.specs.Stage.{Straights}
use Rattle.c62_loop_match.specs.Promise.{promises}
use Rattle.c62_loop_match.specs.Distances.{Parts, KeepsParted}
use Rattle.c62_loop_match.proofs.Written.{AreWritten}
use Rattle.c62_loop_match.proofs.early.early_behind.Given as goal

abbrev pub invariant-loop-i : goal.invariant-loop-i
invariant-loop-i l = (l.i ≤ l.j)
    × (AreWritten l.path l.written l.i l.j
    × ((straights : Straights) → Parts straights l.borders → (k : ℕ) → l.i ≤ k → k < l.j
    → KeepsParted (promises l.promise) straights l.borders.trips (insns_in l.path) l.instances k l.j))

abbrev pub decreases-loop-i : goal.decreases-loop-i
decreases-loop-i l = l.i
