use Rattle.std.proofs.Common.{ℕ, ◌<◌}
use Rattle.c62_loop_match.specs.Promise.{promises}
use Rattle.c62_loop_match.specs.Collapse.{KeepsPast}
use Rattle.c62_loop_match.proofs.collapse.keeps_all_past.Given as goal

abbrev pub invariant-loop-passes : goal.invariant-loop-passes
invariant-loop-passes l = (k : ℕ) → 0 < k → k < l.passes
    → KeepsPast (promises l.promise) l.work l.schedule l.most l.beyond k
