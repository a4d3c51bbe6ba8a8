use Rattle.std.proofs.Common.{◌≡◌, ◌++◌, length, map}
use Rattle.c62_adopt_line.specs.Plain.{undotted}
use Rattle.c62_adopt_spell.specs.Statement.{smooth_byte, smoothed}
use Rattle.c62_adopt_spell.proofs.statement.push_smoothed.Given as goal

abbrev pub invariant-loop-rest : goal.invariant-loop-rest
invariant-loop-rest l = l.plain.items ++ map (smooth_byte l.pair) (undotted l.names l.rest) ≡ l.initial.plain.items ++
    smoothed l.pair l.line

abbrev pub decreases-loop-rest : goal.decreases-loop-rest
decreases-loop-rest l = length l.rest
