use Rattle.std.proofs.Common.{◌≡◌, ◌≤◌, length}
use Rattle.c62_check_loops.specs.Granted.{names_loop}
use Rattle.c62_check_loops.proofs.granted.names_loop.Given as goal

abbrev pub invariant-loop-number : goal.invariant-loop-number
invariant-loop-number l = (l.found ≡ names_loop l.blocks l.label l.number) × (l.number ≤ length l.blocks)
