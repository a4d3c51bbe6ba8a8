use Rattle.std.proofs.Common.{◌≡◌, length}
use Rattle.c62_depend.specs.Plan.{insns_of}
use Rattle.c62_refute.specs.Window.{HoldAll}
use Rattle.c62_refute.proofs.search.whole.Given as goal

abbrev pub invariant-loop-i : goal.invariant-loop-i
invariant-loop-i l = record {
  sized : length l.windows.items ≡ l.i;
  hold : HoldAll (insns_of l.plan) l.most l.windows.items;
}
