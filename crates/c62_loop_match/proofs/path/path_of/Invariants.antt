use Rattle.c62_loop_match.proofs.Paths.{Builds}
use Rattle.c62_loop_match.proofs.path.path_of.Given as goal

abbrev pub invariant-loop-trip : goal.invariant-loop-trip
invariant-loop-trip l = Builds l.work l.trips l.trip l.path.items
