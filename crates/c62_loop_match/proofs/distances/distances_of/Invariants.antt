use Rattle.std.proofs.Common.{ℕ, ◌+◌, ◌<◌}
use Rattle.c62_loop.specs.Stage.{KeepDistances, placed_of}
use Rattle.c62_loop_match.specs.Parts.{schedule_of}
use Rattle.c62_loop_match.specs.Path.{straights_of}
use Rattle.c62_loop_match.specs.Promise.{promises}
use Rattle.c62_loop_match.proofs.distances.distances_of.Given as goal

abbrev pub invariant-loop-passes : goal.invariant-loop-passes
invariant-loop-passes l = (k : ℕ) → 0 < k → k < l.passes
    → KeepDistances (promises l.promise) (straights_of l.work) (l.most + k)
    (placed_of (schedule_of l.schedule) (l.most + k) k)
