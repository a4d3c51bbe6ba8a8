use Rattle.std.proofs.Common.{◌≡◌}
use Rattle.c62_kernels.proofs.search.Search.make_room.Given as goal

abbrev pub invariant-loop-seat : goal.invariant-loop-seat
invariant-loop-seat l = l.self.interval ≡ l.initial.self.interval
