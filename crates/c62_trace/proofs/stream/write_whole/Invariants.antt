use Rattle.std.proofs.Common.{length, ◌-◌}
use Rattle.c62_trace.proofs.Telling.{Front}
use Rattle.c62_trace.proofs.stream.write_whole.Given as goal

abbrev pub invariant-loop-taken : goal.invariant-loop-taken
invariant-loop-taken g l = Front (g.W.Write.contents l.fn.stream) (g.W.Write.contents l.stream) l.bytes l.taken

abbrev pub decreases-loop-taken : goal.decreases-loop-taken
decreases-loop-taken g l = length l.bytes - l.taken
