use Rattle.std.proofs.Common.{◌≡◌, ◌≤◌, length}
use Rattle.c62_adopt_line.specs.Line.{from_solid}
use Rattle.c62_adopt_line.proofs.line.from_solid.Given as goal

abbrev pub invariant-loop-rest : goal.invariant-loop-rest
invariant-loop-rest l = (from_solid l.rest ≡ from_solid l.line) × (length l.rest ≤ length l.line)

abbrev pub decreases-loop-rest : goal.decreases-loop-rest
decreases-loop-rest l = length l.rest
