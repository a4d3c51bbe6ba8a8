-- The document of `check --loops` (docs/JSON.md, "check --loops").
use Rattle.std.specs.Prelude.{◌≡◌, ℕ, ◌+◌, Bool, not, List, [], ◌∷◌, ◌++◌, Option, Some, None, codes, slice_get}
use Rattle.clap.specs.Words.{Text as Name}
use Rattle.json.specs.Token.{Token, boolean, key}
use Rattle.c62_json.specs.Document.{array, document}
use Rattle.c62_op.specs.declared.register.Reg.{Reg}
use Rattle.c62_read.specs.declared.block.SerialInsn.{SerialInsn}
use Rattle.c62_read.specs.Block.{Serial}
use Rattle.c62_flight.specs.Text.{Text}
use Rattle.c62_check_loop.specs.declared.verdict.LoopVerdict.{LoopVerdict}
use Rattle.c62_check_rest.specs.declared.verdict.RestVerdict.TheVariants.{Unchecked}
use Rattle.c62_check_loops.specs.declared.told.LoopsJudged.{LoopsJudged}
use Rattle.c62_check_loops.specs.declared.verdict.BlockVerdict.{BlockVerdict}
use Rattle.c62_check_loops.specs.declared.verdict.BlockVerdict.TheVariants.{Loop, Within, Rest}
use Rattle.c62_check_loops.specs.Lines.{insns_in, label_in, lines_from, rows_line}
use Rattle.c62_check_loops.specs.Reading.{readings_of}
use Rattle.c62_check_loops.specs.declared.reading.Reading.{Reading}
use Rattle.c62_check_loops.specs.Told.{AreLoopsJudged, AreLoopsTold}
use Rattle.c62_json_loops.specs.Loops.{loop_object}
use Rattle.c62_json_loops.specs.Rest.{rest_object}

-- the object of a loop stands under its label
abbrev pub named_loop : Option (List ℕ) → List SerialInsn → LoopVerdict → List Reading → List Token
named_loop None insns verdict readings = []
named_loop (Some label) insns verdict readings = loop_object label insns verdict readings

-- what is told of the block of this number as a loop
abbrev pub loop_at : List Serial → ℕ → BlockVerdict → List Token
loop_at blocks number (Loop verdict) =
    named_loop (label_in (slice_get blocks number)) (insns_in (slice_get blocks number)) verdict (readings_of blocks number verdict)
loop_at blocks number verdict = []

-- of a loop without a label nothing is known
abbrev pub unnamed : ℕ → Option (List ℕ) → List Token
unnamed number None = rest_object number Unchecked
unnamed number (Some label) = []

-- what is told of it as a block of no loop
abbrev pub rest_at : List Serial → ℕ → BlockVerdict → List Token
rest_at blocks number (Loop verdict) = unnamed number (label_in (slice_get blocks number))
rest_at blocks number Within = []
rest_at blocks number (Rest verdict) = rest_object number verdict

-- that of the blocks from this number on
abbrev pub loops_from : List Serial → ℕ → List BlockVerdict → List Token
loops_from blocks number [] = []
loops_from blocks number (verdict ∷ verdicts) = loop_at blocks number verdict ++ loops_from blocks (number + 1) verdicts

abbrev pub rests_from : List Serial → ℕ → List BlockVerdict → List Token
rests_from blocks number [] = []
rests_from blocks number (verdict ∷ verdicts) = rest_at blocks number verdict ++ rests_from blocks (number + 1) verdicts

unfoldable pub loops_member : List Serial → List BlockVerdict → List Token
loops_member blocks verdicts = key (codes "loops") ∷ array (loops_from blocks 0 verdicts)

unfoldable pub rests_member : List Serial → List BlockVerdict → List Token
rests_member blocks verdicts = key (codes "blocks") ∷ array (rests_from blocks 0 verdicts)

-- whether all is the same, the loops, the other blocks, and whether their rows are all rows
unfoldable pub judged_members : List Serial → LoopsJudged → List Token
judged_members blocks judged =
    (key (codes "same") ∷ boolean judged.same ∷ []) ++ loops_member blocks judged.verdicts.items ++ rests_member blocks judged.verdicts.items
    ++ (key (codes "rows") ∷ boolean (not judged.wanting) ∷ [])

-- the document of what is found of the blocks of a text and packets, where so much is promised
pub record IsLoopsDocument (trips : List (Name × ℕ)) (apart : List Reg) (blocks : List Serial) (packets : Text) (text : List ℕ) (same plain : Bool) : Type 0 where
  pub judged : LoopsJudged
  pub are : AreLoopsJudged trips apart blocks packets judged
  pub says : text ≡ document (codes "check") (judged_members blocks judged)
  pub all : same ≡ judged.same
  pub bare : plain ≡ judged.plain

-- ---- laws

-- what the document tells of each block is what lines tell that `check --loops` may print
pub record HasLines (trips : List (Name × ℕ)) (apart : List Reg) (blocks : List Serial) (packets : Text) (text : List ℕ) (same plain : Bool) : Type 0 where
  pub judged : LoopsJudged
  pub says : text ≡ document (codes "check") (judged_members blocks judged)
  pub lines : AreLoopsTold trips apart blocks packets (lines_from blocks 0 judged.verdicts.items ++ rows_line judged.wanting) same plain

abbrev pub DocumentsHaveLines : List (Name × ℕ) → List Reg → List Serial → Text → Type 0
DocumentsHaveLines trips apart blocks packets =
    (text : List ℕ) (same plain : Bool) → IsLoopsDocument trips apart blocks packets text same plain → HasLines trips apart blocks packets text same plain
