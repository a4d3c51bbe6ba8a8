use Rattle.c62_check_loops.specs.Reading.{AreFound}
use Rattle.c62_check_loops.proofs.reading.line_reading.Given as goal

-- what is found within so many blocks
abbrev pub invariant-loop : goal.invariant-loop
invariant-loop l = AreFound l.blocks l.reg l.counter l.found.items
