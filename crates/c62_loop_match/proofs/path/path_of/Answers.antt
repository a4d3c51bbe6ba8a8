use Rattle.std.proofs.Common.{rules}
use Rattle.c62_loop_match.proofs.Paths.{path_more}
use Rattle.c62_loop_match.proofs.path.path_of.Goals as goal

pub loop-trip-preserved : goal.loop-trip-preserved
loop-trip-preserved c =
    path_more c.args.work.now c.args.trips c.loop-trip.trip c.loop-trip.path.items c.extend_from_slice.new.self.items
    c.loop-trip-test.true (search rules) c.loop-trip.invariant
