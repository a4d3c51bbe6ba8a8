use Rattle.std.proofs.Common.{◌≡◌, length}
use Rattle.c62_depend.specs.Plan.{insns_of}
use Rattle.c62_refute.specs.Window.{KeepAll}
use Rattle.c62_refute.proofs.shrink.part_room.Given as goal

abbrev pub invariant-loop-first : goal.invariant-loop-first
invariant-loop-first l = record {
  sized : length l.windows ≡ length l.plan.insns;
  keeps : KeepAll (insns_of l.plan) l.fn.windows l.windows;
}
