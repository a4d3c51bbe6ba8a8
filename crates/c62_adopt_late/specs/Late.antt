-- Registers that are read below a block before what lands in them there, as the text is written (docs/ADOPT.md, "Cycles that lack").
-- Once the text is drained it has landed: so these are where draining changes what the text does.
use Rattle.std.specs.Prelude.{ℕ, ◌+◌, Bool, not, ◌&&◌, nat_le, nat_lt, if◌then◌else◌, List, [], ◌∷◌, Option, Some, None, is_none}
use Rattle.std.specs.List.{list_any}
use Rattle.std.specs.Option.{option_or}
use Rattle.c62_op.specs.declared.register.Reg.{Reg}
use Rattle.c62_op.specs.Shape.{reads_of, writes_of}
use Rattle.c62_op.specs.Takes.{same_reg}
use Rattle.c62_insn.specs.Insn.{is_condition_on}
use Rattle.c62_line.specs.Line.{Parts}
use Rattle.c62_adopt_cut.specs.Blocks.{Issue, Draft}
use Rattle.c62_adopt_cut.specs.Text.{Cut}
use Rattle.c62_adopt_cut.specs.Flight.{branches, next_start}
use Rattle.c62_adopt_late.specs.declared.late.Late.{Late}
use Rattle.std.specs.Prelude.{◌||◌}

-- the cycle of the text in which an instruction is issued whose block begins in this one
abbrev pub cycle_at : ℕ → Issue → ℕ
cycle_at start issue = start + issue.cycle

-- ---- below

-- it reads the register, as an operand or as its condition
abbrev pub reads : Reg → Parts → Bool
reads reg parts = list_any (λ read. same_reg read reg) (reads_of parts.op parts.operands) || is_condition_on reg parts.cond

-- it writes the register, whatever happens, and that has landed before this cycle
abbrev pub sets : Reg → ℕ → ℕ → Issue → Bool
sets reg cycle start issue =
    is_none issue.parts.cond
    && list_any (λ write. same_reg write.0 reg && nat_lt (cycle_at start issue + write.1) cycle) (writes_of issue.parts.op issue.parts.operands)

-- an instruction of the block does, or of these blocks
abbrev pub is_set_in : Reg → ℕ → Draft → Bool
is_set_in reg cycle draft = list_any (sets reg cycle draft.start) draft.issues

abbrev pub is_set : Reg → ℕ → List Draft → Bool
is_set reg cycle drafts = list_any (is_set_in reg cycle) drafts

-- it reads the register no later than in this cycle, and nothing of these blocks has set it by then
abbrev pub reads_old : List Draft → Reg → ℕ → ℕ → Issue → Bool
reads_old drafts reg landing start issue =
    nat_le (cycle_at start issue) landing && (reads reg issue.parts && not (is_set reg (cycle_at start issue) drafts))

-- an instruction of a block does that stands among these, or of these blocks
abbrev pub is_read_in : List Draft → Reg → ℕ → Draft → Bool
is_read_in drafts reg landing draft = list_any (reads_old drafts reg landing draft.start) draft.issues

abbrev pub is_read_old : Reg → ℕ → List Draft → Bool
is_read_old reg landing drafts = list_any (is_read_in drafts reg landing) drafts

-- ---- the first

abbrev pub late : Reg → ℕ → Late
late reg line = record { reg = reg; line = line }

-- of these writes of the instruction of a line that is issued in a cycle the first that is in flight where the block below begins, and over
-- which the register is read there
abbrev pub late_write : List Draft → ℕ → ℕ → ℕ → List (Reg × ℕ) → Option Late
late_write drafts next line cycle [] = None
late_write drafts next line cycle (write ∷ writes) =
    if nat_le next (cycle + write.1) && is_read_old write.0 (cycle + write.1) drafts then Some (late write.0 line)
    else late_write drafts next line cycle writes

-- of these instructions
abbrev pub late_issue : List Draft → ℕ → ℕ → List Issue → Option Late
late_issue drafts next start [] = None
late_issue drafts next start (issue ∷ issues) =
    option_or (late_write drafts next issue.line (cycle_at start issue) (writes_of issue.parts.op issue.parts.operands)) (late_issue drafts next start issues)

-- of a block; one with a branch lacks no cycles
abbrev pub late_in : ℕ → List Draft → Draft → Option Late
late_in end drafts draft = if list_any branches draft.issues then None else late_issue drafts (next_start end drafts) draft.start draft.issues

-- of these blocks
abbrev pub late_among : ℕ → List Draft → Option Late
late_among end [] = None
late_among end (draft ∷ drafts) = option_or (late_in end drafts draft) (late_among end drafts)

-- of a text
abbrev pub first_late : Cut → Option Late
first_late cut = late_among cut.cycles cut.drafts
