-- Which loops of a text are told as such (docs/CHECK.md, "All loops of a text").
use Rattle.std.specs.Prelude.{ℕ, List, Option}
use Rattle.c62_read.specs.Block.{Serial}
use Rattle.c62_flight.specs.Text.{Text}
use Rattle.c62_check_loop.specs.declared.verdict.LoopVerdict.{LoopVerdict}
use Rattle.c62_check_loops.specs.declared.verdict.Loops.{Loops}
use Rattle.c62_check_loops.specs.Verdicts.{AreLoopVerdicts, AreLoopsOf, IsLoopTold}

-- of whatever packets what is told of loops holds, this holds of a block
pub record IsTaken (blocks : List Serial) (loops : Loops) (number : ℕ) (verdict : Option LoopVerdict) : Type 0 where
  pub holds : (packets : Text) → AreLoopsOf blocks packets loops → IsLoopTold loops.promise blocks packets number verdict

-- so it is of each of so many first blocks
pub record AreTaken (blocks : List Serial) (loops : Loops) (count : ℕ) (verdicts : List (Option LoopVerdict)) : Type 0 where
  pub hold : (packets : Text) → AreLoopsOf blocks packets loops → AreLoopVerdicts loops.promise blocks packets count verdicts
