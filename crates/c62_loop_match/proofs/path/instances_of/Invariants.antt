use Rattle.c62_loop_match.proofs.Paths.{Counts}
use Rattle.c62_loop_match.proofs.path.instances_of.Given as goal

abbrev pub invariant-loop-trip : goal.invariant-loop-trip
invariant-loop-trip l = Counts l.schedule l.trips l.passes l.trip l.instances.items
