use Rattle.std.proofs.Common.{ℕ, ◌<◌}
use Rattle.c62_pair.specs.Uses.{insns_in}
use Rattle.c62_loop.specs.Stage.{Straights}
use Rattle.c62_loop_match.specs.Promise.{promises}
use Rattle.c62_loop_match.specs.Distances.{Parts, KeepsParted}
use Rattle.c62_loop_match.proofs.early.first_early.Given as goal

abbrev pub invariant-loop-j : goal.invariant-loop-j
invariant-loop-j l = (straights : Straights) → Parts straights l.borders → (i k : ℕ) → i < k → k < l.j
    → KeepsParted (promises l.promise) straights l.borders.trips (insns_in l.path) l.instances i k
