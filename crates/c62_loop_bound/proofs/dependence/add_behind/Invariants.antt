use Rattle.std.proofs.Common.{List, ◌≤◌}
use Rattle.std.specs.Prelude.{All}
use Rattle.c62_pair.specs.declared.uses.Uses.{Uses}
use Rattle.c62_pair.specs.Uses.{insns_in}
use Rattle.c62_loop_match.specs.Promise.{promises}
use Rattle.c62_loop_match.proofs.Written.{AreWritten}
use Rattle.c62_loop_bound.specs.Circle.{IsDependence}
use Rattle.c62_loop_bound.specs.Steps.{IsThrice}
use Rattle.c62_loop_bound.proofs.dependence.add_behind.Given as goal

abbrev pub invariant-loop-i : goal.invariant-loop-i
invariant-loop-i l = record {
  inside : l.i ≤ l.j;
  written : AreWritten l.path l.written l.i l.j;
  found : (work : List Uses) → IsThrice work l.path
      → All (IsDependence (promises l.promise) (insns_in work)) l.fn.found.items
      → All (IsDependence (promises l.promise) (insns_in work)) l.found.items;
}

abbrev pub decreases-loop-i : goal.decreases-loop-i
decreases-loop-i l = l.i
