use Rattle.std.specs.Prelude.{All, Contains}
use Rattle.c62_loop_bound.proofs.search.Sums.circle.Given as goal

abbrev pub invariant-loop : goal.invariant-loop
invariant-loop l = All (Contains l.dependences) l.circle.items
