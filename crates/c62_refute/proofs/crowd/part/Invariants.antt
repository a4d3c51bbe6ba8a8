use Rattle.std.proofs.Common.{◌≡◌, ℕ, ◌≤◌, length}
use Rattle.std.specs.Prelude.{slice_get}
use Rattle.c62_depend.specs.Plan.{insns_of}
use Rattle.c62_refute.specs.Window.{KeepAll}
use Rattle.c62_refute.proofs.crowd.part.Given as goal

abbrev pub invariant-loop-i : goal.invariant-loop-i
invariant-loop-i l = record {
  sized : length l.windows ≡ length l.plan.insns;
  keeps : KeepAll (insns_of l.plan) l.fn.windows l.windows;
  rest : (k : ℕ) → l.i ≤ k → slice_get l.windows k ≡ slice_get l.fn.windows k;
}
