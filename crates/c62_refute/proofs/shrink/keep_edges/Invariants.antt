use Rattle.std.proofs.Common.{◌≡◌, length}
use Rattle.c62_depend.specs.Plan.{insns_of}
use Rattle.c62_refute.specs.Window.{KeepAll}
use Rattle.c62_refute.proofs.shrink.keep_edges.Given as goal

abbrev pub invariant-loop-edge : goal.invariant-loop-edge
invariant-loop-edge l = record {
  sized : length l.windows ≡ length l.plan.insns;
  keeps : KeepAll (insns_of l.plan) l.fn.windows l.windows;
}

abbrev pub invariant-loop-edge-2 : goal.invariant-loop-edge-2
invariant-loop-edge-2 l = record {
  sized : length l.windows ≡ length l.plan.insns;
  keeps : KeepAll (insns_of l.plan) l.fn.windows l.windows;
}
