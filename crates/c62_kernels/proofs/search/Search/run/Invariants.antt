use Rattle.std.proofs.Common.{◌≡◌, ◌≤◌}
use Rattle.c62_kernels.proofs.search.Search.run.Given as goal

abbrev pub invariant-loop : goal.invariant-loop
invariant-loop l = record {
  interval : l.self.interval ≡ l.initial.self.interval;
  left : l.left ≤ l.initial.left;
}
