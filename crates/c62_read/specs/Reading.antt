-- What the steps of the reader answer, told by the definitions of lines and texts.
use Rattle.std.specs.Prelude.{◌≡◌, ℕ, List, [], ◌∷◌, ◌++◌, map, Option, Some, None, MatchResult, Result, Ok}
use Rattle.std.specs.Borrow.{Bor}
use Rattle.std.specs.Option.{option_copied}
use Rattle.c62_insn.specs.declared.insn.Insn.{Insn}
use Rattle.c62_insn.specs.Insn.{op_of}
use Rattle.c62_line.specs.declared.fault.Cause.{Cause}
use Rattle.c62_read.specs.declared.jump.Jump.{Jump}
use Rattle.c62_read.specs.declared.program.BlockReader.{BlockReader}
use Rattle.c62_read.specs.declared.program.TextReader.{TextReader}
use Rattle.c62_line.specs.declared.reading.Statement.{Statement}
use Rattle.c62_read.specs.Text.{lines_of}
use Rattle.c62_op.specs.Shape.{is_branch}
use Rattle.c62_line.specs.Line.{Says, parts_of, statement_of}
use Rattle.c62_read.specs.Walk.{Asked, Drafts, Step, add_line, add_lines, add_says, all_drafts, asked_in, asked_of, closed, draft_of, drafts_of}
use Rattle.c62_read.specs.Walk.{missed, no_drafts, opened, own_labels, refused, unless_hindered, with_insn}
use Rattle.c62_read.specs.Program.{BlockParts, Draft, Name, Refusal, aimed, block_in, labels_of}
use Rattle.c62_op.specs.declared.set.InstructionSet.{InstructionSet}

-- what a line does to the blocks that were read before it
abbrev pub line_step : InstructionSet → ℕ → List ℕ → TextReader → Step
line_step isa number line text = add_line isa number line (drafts_of text)

-- what a label and what stands behind it do to them
abbrev pub said_step : ℕ → Option (Bor (List ℕ)) → Statement → TextReader → Step
said_step number label what text = add_says number (option_copied label) (drafts_of text) (Ok (statement_of what))

-- the step leads to these blocks, or this stands against it
abbrev pub LeadsTo : Step → Option Cause → TextReader → Type 0
LeadsTo step fault text = step.drafts ≡ unless_hindered fault (drafts_of text)

-- the branches that wait are the old ones and that of what is said
abbrev pub KeepsJump : ℕ → Says → List Jump → List Jump → Type 0
KeepsJump number says old new = map asked_of new ≡ map asked_of old ++ asked_in number says

abbrev pub KeepsJumpOf : InstructionSet → ℕ → List ℕ → TextReader → List Jump → List Jump → Type 0
KeepsJumpOf isa number line text old new = KeepsJump number (line_step isa number line text).says old new

-- a line of this number comes to what its label and the rest say, or to this fault
abbrev pub SaysAtLine : InstructionSet → ℕ → List ℕ → TextReader → Result (Option (Bor (List ℕ)) × Statement) Cause → Type 0
SaysAtLine isa number line text judged = MatchResult judged
    (λ found. line_step isa number line text ≡ said_step number found.0 found.1 text)
    (λ cause. line_step isa number line text ≡ refused cause)

-- the branches that wait are left that go to none of these labels
abbrev pub LeavesOut : List Name → List Jump → List Jump → Type 0
LeavesOut labels old new = map asked_of new ≡ missed labels (map asked_of old)

-- the branches that no label of the blocks, nor of this rest of the text, answers
abbrev pub still_missed : TextReader → List ℕ → List Jump → List Asked
still_missed text rest jumps = missed (own_labels (all_drafts (drafts_of text)) ++ labels_of (lines_of rest)) (map asked_of jumps)

-- the blocks that the lines of a text say, or its first fault
abbrev pub text_read : InstructionSet → List ℕ → Result Drafts Refusal
text_read isa text = add_lines isa (labels_of (lines_of text)) 1 (lines_of text) no_drafts

-- the first line of a text and the text behind it, where it has a line
abbrev pub IsFirstLine : Option (Bor (List ℕ) × Bor (List ℕ)) → List (List ℕ) → Type 0
IsFirstLine None lines = lines ≡ []
IsFirstLine (Some found) lines = lines ≡ found.0.now ∷ lines_of found.1.now

-- ---- blocks

-- a block with one more instruction, which branches to this label, if it branches to one
abbrev pub with_read : Insn → ℕ → Option (Bor (List ℕ)) → Draft → Draft
with_read insn line target draft = with_insn (parts_of insn) line (option_copied target) draft

-- the blocks with one more instruction
abbrev pub with_next : Insn → ℕ → Option (Bor (List ℕ)) → Drafts → Drafts
with_next insn line target drafts = closed (is_branch (op_of insn)) drafts.done (with_read insn line target (opened drafts.current))

-- the blocks where none is open, or where one is
abbrev pub all_closed : Drafts → Drafts
all_closed drafts = record { done = all_drafts drafts; current = None }

abbrev pub one_open : Drafts → Drafts
one_open drafts = record drafts { current = Some (opened drafts.current) }

-- a block whose branch goes to the block of this number
abbrev pub aimed_block : ℕ → BlockReader → BlockParts
aimed_block number block = record { label = block.label; insns = map (aimed number) (draft_of block).insns }

-- the blocks of a program, each branch aimed
abbrev pub aimed_blocks : List Draft → List BlockParts
aimed_blocks drafts = map (block_in drafts) drafts
