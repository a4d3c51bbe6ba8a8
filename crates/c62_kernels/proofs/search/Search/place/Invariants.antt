use Rattle.std.proofs.Common.{◌≡◌}
use Rattle.c62_kernels.proofs.search.Search.place.Given as goal

abbrev pub invariant-loop-link : goal.invariant-loop-link
invariant-loop-link l = l.self.interval ≡ l.initial.self.interval
