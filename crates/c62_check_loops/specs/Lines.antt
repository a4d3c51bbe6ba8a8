-- The lines of a text and packets that pipeline its loops (docs/CHECK.md, "All loops of a text").
use Rattle.std.specs.Prelude.{ℕ, ◌+◌, Bool, true, false, List, [], ◌∷◌, ◌++◌, Option, Some, None, codes, decimal, slice_get}
use Rattle.std.specs.List.{flat_map}
use Rattle.c62_op.specs.Name.{register_name}
use Rattle.c62_read.specs.declared.block.SerialInsn.{SerialInsn}
use Rattle.c62_read.specs.Block.{Serial}
use Rattle.c62_check_loop.specs.declared.verdict.LoopVerdict.{LoopVerdict}
use Rattle.c62_check_loop.specs.Lines.{loop_line}
use Rattle.c62_check_rest.specs.declared.verdict.RestVerdict.TheVariants.{Unchecked}
use Rattle.c62_check_rest.specs.Lines.{rest_lines}
use Rattle.c62_check_loops.specs.Reading.{readings_of}
use Rattle.c62_check_loops.specs.declared.reading.Reading.{Reading}
use Rattle.c62_check_loops.specs.declared.verdict.BlockVerdict.{BlockVerdict}
use Rattle.c62_check_loops.specs.declared.verdict.BlockVerdict.TheVariants.{Loop, Within, Rest}

abbrev pub label_in : Option Serial → Option (List ℕ)
label_in None = None
label_in (Some block) = block.label

abbrev pub insns_in : Option Serial → List SerialInsn
insns_in None = []
insns_in (Some block) = block.insns

abbrev pub named_line : ℕ → Option (List ℕ) → List SerialInsn → LoopVerdict → List ℕ
named_line number None insns verdict = rest_lines number Unchecked
named_line number (Some label) insns verdict = loop_line label insns verdict

-- the line of the loop that the block of this number is
abbrev pub loop_at : List Serial → ℕ → LoopVerdict → List ℕ
loop_at blocks number verdict = named_line number (label_in (slice_get blocks number)) (insns_in (slice_get blocks number)) verdict

-- ` but A3 read L`: the line L may read the register, which the loop leaves otherwise
abbrev pub reading_words : Reading → List ℕ
reading_words reading = codes " but" ++ ((codes " " ++ register_name reading.reg) ++ (codes " read " ++ decimal reading.line))

abbrev pub name_in : Option (List ℕ) → List ℕ
name_in None = []
name_in (Some label) = label

abbrev pub reading_line : Option (List ℕ) → Reading → List ℕ
reading_line label reading = codes "loop " ++ (name_in label ++ (reading_words reading ++ codes "\n"))

-- those of the loop that the block of this number is
abbrev pub reading_lines : List Serial → ℕ → LoopVerdict → List ℕ
reading_lines blocks number verdict = flat_map (reading_line (label_in (slice_get blocks number))) (readings_of blocks number verdict)

-- a block that is told with a loop has no line of its own
abbrev pub line_at : List Serial → ℕ → BlockVerdict → List ℕ
line_at blocks number (Loop verdict) = loop_at blocks number verdict ++ reading_lines blocks number verdict
line_at blocks number Within = []
line_at blocks number (Rest verdict) = rest_lines number verdict

-- the lines of the blocks from this number on
abbrev pub lines_from : List Serial → ℕ → List BlockVerdict → List ℕ
lines_from blocks number [] = []
lines_from blocks number (verdict ∷ verdicts) = line_at blocks number verdict ++ lines_from blocks (number + 1) verdicts

-- some row of the packets is no block's, though all blocks are the same
abbrev pub rows_line : Bool → List ℕ
rows_line true = codes "rows unchecked\n"
rows_line false = []
