use Rattle.std.specs.Prelude.{All}
use Rattle.c62_pair.specs.Uses.{insns_in}
use Rattle.c62_loop_match.specs.Promise.{promises}
use Rattle.c62_loop_bound.specs.Circle.{IsDependence}
use Rattle.c62_loop_bound.proofs.dependence.dependences_of.Given as goal

abbrev pub invariant-loop-j : goal.invariant-loop-j
invariant-loop-j l = All (IsDependence (promises l.promise) (insns_in l.work)) l.found.items
