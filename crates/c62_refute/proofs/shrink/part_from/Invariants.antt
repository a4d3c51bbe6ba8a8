use Rattle.std.proofs.Common.{◌≡◌, length}
use Rattle.c62_depend.specs.Plan.{insns_of}
use Rattle.c62_refute.specs.Window.{KeepAll}
use Rattle.c62_refute.proofs.shrink.part_from.Given as goal

abbrev pub invariant-loop-last : goal.invariant-loop-last
invariant-loop-last l = record {
  sized : length l.windows ≡ length l.plan.insns;
  keeps : KeepAll (insns_of l.plan) l.fn.windows l.windows;
}
