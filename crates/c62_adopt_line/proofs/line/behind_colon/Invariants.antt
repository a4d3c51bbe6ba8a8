use Rattle.std.proofs.Common.{◌≡◌, ◌≤◌, length}
use Rattle.c62_adopt_line.specs.Line.{behind_colon}
use Rattle.c62_adopt_line.proofs.line.behind_colon.Given as goal

abbrev pub invariant-loop-rest : goal.invariant-loop-rest
invariant-loop-rest l = (behind_colon l.rest ≡ behind_colon l.line) × (length l.rest ≤ length l.line)

abbrev pub decreases-loop-rest : goal.decreases-loop-rest
decreases-loop-rest l = length l.rest
