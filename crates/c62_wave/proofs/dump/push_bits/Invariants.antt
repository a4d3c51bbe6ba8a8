use Rattle.std.proofs.Common.{◌≡◌, ◌++◌, ◌≤◌}
use Rattle.c62_wave.specs.Value.{bits}
use Rattle.c62_wave.proofs.dump.push_bits.Given as goal

abbrev pub invariant-loop-left : goal.invariant-loop-left
invariant-loop-left l = (l.left ≤ 32) × (l.out.items ++ bits l.left l.number ≡ l.fn.out.items ++ bits l.count l.number)

abbrev pub decreases-loop-left : goal.decreases-loop-left
decreases-loop-left l = l.left
