use Rattle.std.proofs.Common.{◌≡◌, length}
use Rattle.c62_depend.specs.Plan.{insns_of}
use Rattle.c62_refute.specs.Window.{HoldNone}
use Rattle.c62_refute.proofs.search.+search_in.Given as goal

abbrev pub decreases-search_in : goal.decreases-search_in
decreases-search_in l = l.depth

abbrev pub invariant-loop : goal.invariant-loop
invariant-loop l = record {
  sized : length l.windows.items ≡ length (insns_of l.plan);
  none : HoldNone (insns_of l.plan) l.windows.items → HoldNone (insns_of l.plan) l.fn.windows.items;
}
