-- What is told of a text and packets that pipeline its loops (docs/CHECK.md, "All loops of a text").
use Rattle.std.specs.Prelude.{◌≡◌, ℕ, ◌&&◌, not, Bool, List, ◌++◌, length, Option}
use Rattle.std.specs.List.{list_all}
use Rattle.clap.specs.Words.{Text as Name}
use Rattle.c62_op.specs.declared.register.Reg.{Reg}
use Rattle.c62_read.specs.Block.{Serial}
use Rattle.c62_flight.specs.Text.{Text}
use Rattle.c62_loop_match.specs.declared.promise.Promise.{Promise}
use Rattle.c62_check_loop.specs.declared.verdict.LoopVerdict.{LoopVerdict}
use Rattle.c62_check_rest.specs.Starts.{Starts}
use Rattle.c62_check_loops.specs.declared.told.LoopsJudged.{LoopsJudged}
use Rattle.c62_check_loops.specs.declared.told.Told.{Told}
use Rattle.c62_check_loops.specs.declared.verdict.BlockVerdict.{BlockVerdict}
use Rattle.c62_check_loops.specs.Lines.{lines_from, rows_line}
use Rattle.c62_check_loops.specs.Promised.{IsPromiseOf}
use Rattle.c62_check_loops.specs.Verdicts.{AreVerdicts, is_same, is_plain, are_good}
use Rattle.c62_check_loops.specs.Fit.{are_fit, are_all_rows}

-- what is told of so many first blocks
pub record AreTold (trips : List (Name × ℕ)) (promise : Promise) (loops : List (Option LoopVerdict)) (starts : Starts) (blocks : List Serial) (packets : Text) (count : ℕ) (told : Told) : Type 0 where
  pub are : AreVerdicts promise loops starts blocks packets count told.verdicts.items
  pub same : told.same ≡ list_all is_same told.verdicts.items
  pub plain : told.plain ≡ list_all is_plain told.verdicts.items
  pub good : told.good ≡ are_good trips blocks 0 told.verdicts.items
  pub fit : told.fit ≡ are_fit blocks loops starts 0 told.verdicts.items

-- the blocks' rows are all rows of the packets, one block's behind the other's
abbrev pub stand_in_turn : List (Option LoopVerdict) → Starts → List Serial → List BlockVerdict → Text → Bool
stand_in_turn loops starts blocks verdicts packets = are_fit blocks loops starts 0 verdicts && are_all_rows starts (length blocks) (length packets.rows)

-- This is found of the blocks of a text and packets, where so many trips are promised of the loops of these labels, and that accesses from
-- two of these registers are apart. Rows are wanting where all blocks are the same, and their rows aren't all rows, one behind the other.
pub record AreLoopsJudged (trips : List (Name × ℕ)) (apart : List Reg) (blocks : List Serial) (packets : Text) (judged : LoopsJudged) : Type 0 where
  pub promise : Promise
  pub promised : IsPromiseOf apart promise
  pub loops : List (Option LoopVerdict)
  pub counted : length loops ≡ length blocks
  pub starts : Starts
  pub are : AreVerdicts promise loops starts blocks packets (length blocks) judged.verdicts.items
  pub rows : judged.wanting ≡ (list_all is_same judged.verdicts.items && not (stand_in_turn loops starts blocks judged.verdicts.items packets))
  pub all : judged.same ≡ (are_good trips blocks 0 judged.verdicts.items && stand_in_turn loops starts blocks judged.verdicts.items packets)
  pub bare : judged.plain ≡ list_all is_plain judged.verdicts.items

-- These lines are told of the blocks of a text and packets, where so many trips are promised of the loops of these labels, and that
-- accesses from two of these registers are apart. All is the same where each block is, as a loop from no more trips on than are sure, or
-- is told with a loop, and their rows are all rows, one behind the other. It is plainly so where no loop is the same but for registers.
pub record AreLoopsTold (trips : List (Name × ℕ)) (apart : List Reg) (blocks : List Serial) (packets : Text) (answer : List ℕ) (same plain : Bool) : Type 0 where
  pub promise : Promise
  pub promised : IsPromiseOf apart promise
  pub loops : List (Option LoopVerdict)
  pub counted : length loops ≡ length blocks
  pub starts : Starts
  pub verdicts : List BlockVerdict
  pub are : AreVerdicts promise loops starts blocks packets (length blocks) verdicts
  pub told : answer ≡ lines_from blocks 0 verdicts ++ rows_line (list_all is_same verdicts && not (stand_in_turn loops starts blocks verdicts packets))
  pub all : same ≡ (are_good trips blocks 0 verdicts && stand_in_turn loops starts blocks verdicts packets)
  pub bare : plain ≡ list_all is_plain verdicts
