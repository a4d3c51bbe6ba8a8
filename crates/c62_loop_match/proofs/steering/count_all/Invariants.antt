use Rattle.std.proofs.Common.{drop}
use Rattle.c62_loop_match.proofs.Counting.{Onward}
use Rattle.c62_loop_match.proofs.steering.count_all.Given as goal

abbrev pub invariant-loop-each : goal.invariant-loop-each
invariant-loop-each l = Onward l.rule l.fn.from l.placed l.count (drop l.each-index l.placed)
