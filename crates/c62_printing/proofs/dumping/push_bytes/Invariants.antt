use Rattle.std.proofs.Common.{◌≡◌, ◌++◌}
use Rattle.c62_printing.specs.Dumping.{bytes_at}
use Rattle.c62_printing.proofs.dumping.push_bytes.Given as goal

abbrev pub invariant-loop-offset : goal.invariant-loop-offset
invariant-loop-offset l = l.out.items ≡ l.fn.out.items ++ bytes_at l.state.machine l.dump.place l.offset
