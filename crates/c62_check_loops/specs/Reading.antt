-- What of a text may read a register that a loop leaves otherwise (docs/CHECK.md, "All loops of a text").
use Rattle.std.specs.Prelude.{◌≡◌, ℕ, zero, suc, ◌+◌, ◌==◌, ◌&&◌, ◌||◌, not, Bool, true, List, [], ◌∷◌, ◌++◌, length, find, slice_get, Option, Some, None, is_some, is_none, option_and_then, if◌then◌else◌}
use Rattle.std.specs.Option.{option_or, option_flatten}
use Rattle.std.specs.List.{flat_map, range_with_len}
use Rattle.c62_op.specs.declared.register.Reg.{Reg}
use Rattle.c62_op.specs.declared.register.Side.{Side}
use Rattle.c62_op.specs.declared.register.Side.TheVariants.{A, B}
use Rattle.c62_op.specs.declared.operands.Operands.{Operands}
use Rattle.c62_op.specs.declared.operands.Operands.TheVariants.{Block}
use Rattle.c62_op.specs.Shape.{delay_of, is_branch}
use Rattle.c62_insn.specs.declared.insn.Insn.{Insn}
use Rattle.c62_insn.specs.Insn.{op_of, operands_of, cond_of, reads_register}
use Rattle.c62_pair.specs.declared.reg_set.RegSet.{RegSet}
use Rattle.c62_pair.specs.RegSet.{reg_in}
use Rattle.c62_pair.specs.Writes.{writes_with}
use Rattle.c62_read.specs.declared.block.SerialInsn.{SerialInsn}
use Rattle.c62_token.specs.Number.{numbered}
use Rattle.c62_read.specs.Block.{Serial}
use Rattle.c62_check_loop.specs.Region.{last_of}
use Rattle.c62_check_loop.specs.declared.verdict.LoopVerdict.{LoopVerdict}
use Rattle.c62_check_loop.specs.declared.verdict.LoopVerdict.TheVariants.{SameBut}
use Rattle.c62_check_loops.specs.declared.reading.First.{First}
use Rattle.c62_check_loops.specs.declared.reading.First.TheVariants.{Read, Set, Nothing}
use Rattle.c62_check_loops.specs.declared.reading.Reading.{Reading}
use Rattle.c62_check_loops.specs.Fit.{block_behind}

-- ---- a block

-- the instruction sets the register, whatever a condition register holds
abbrev pub sets : Insn → Reg → Bool
sets insn reg = is_none (cond_of insn) && (writes_with insn 0 reg || writes_with insn (delay_of (op_of insn)) reg)

abbrev pub reads_or_sets : Reg → SerialInsn → Bool
reads_or_sets reg entry = reads_register entry.insn reg || sets entry.insn reg

-- what an instruction that does one of them does first
abbrev pub first_by : Reg → Option SerialInsn → First
first_by reg None = Nothing
first_by reg (Some entry) = if reads_register entry.insn reg then Read entry.line else Set

-- what instructions do first to a register
abbrev pub first_of : Reg → List SerialInsn → First
first_of reg insns = first_by reg (find (reads_or_sets reg) insns)

-- the block to which a branch goes, if it goes to one
abbrev pub target_of : Operands → Option ℕ
target_of (Block number) = Some number
target_of operands = None

-- that of a block's last instruction
abbrev pub target_by : Option SerialInsn → Option ℕ
target_by None = None
target_by (Some last) = target_of (operands_of last.insn)

-- a run may come to the end of a block: its last instruction is no branch, or a conditional one
abbrev pub falls_through : Option SerialInsn → Bool
falls_through None = true
falls_through (Some last) = not (is_branch (op_of last.insn)) || is_some (cond_of last.insn)

-- the line that reads the register first, where this is what reads it after a jump and after the end of the block
abbrev pub first_line : First → (jumped fallen : Option ℕ) → Option ℕ
first_line (Read line) jumped fallen = Some line
first_line Set jumped fallen = None
first_line Nothing jumped fallen = option_or jumped fallen

-- ---- a text

-- the line that may read the register first from the block of this number on, where this is what may from each block after it
abbrev pub line_from : Reg → Option Serial → (after : ℕ → Option ℕ) → ℕ → Option ℕ
line_from reg None after number = None
line_from reg (Some block) after number = first_line (first_of reg block.insns) (option_and_then after (target_by (last_of block.insns)))
    (if falls_through (last_of block.insns) then after (number + 1) else None)

-- The line that may read the register first, from the block of this number on and within so many blocks, before any instruction sets it. A
-- branch to a register, and what comes after the last block, are outside the text.
abbrev pub line_within : List Serial → Reg → (most : ℕ) → ℕ → Option ℕ
line_within blocks reg zero number = None
line_within blocks reg (suc most) number = line_from reg (slice_get blocks number) (line_within blocks reg most) number

-- A way that comes to a block twice is no shorter than one that doesn't, so as many blocks as the text has are enough.
abbrev pub line_reading : List Serial → Reg → ℕ → Option ℕ
line_reading blocks reg number = line_within blocks reg (length blocks) number

-- ---- so it is of each block, in a list

abbrev pub found_at : List (Option ℕ) → ℕ → Option ℕ
found_at found number = option_flatten (slice_get found number)

abbrev pub AreFound : List Serial → Reg → (most : ℕ) → (found : List (Option ℕ)) → Type 0
AreFound blocks reg most found = (number : ℕ) → found_at found number ≡ line_within blocks reg most number

-- of each of so many first blocks, within one block more than was found
pub record AreFoundNext (blocks : List Serial) (reg : Reg) (found : List (Option ℕ)) (count : ℕ) (lines : List (Option ℕ)) : Type 0 where
  pub counted : length lines ≡ count
  pub each : (number : ℕ) (line : Option ℕ) → slice_get lines number ≡ Some line
      → line ≡ line_from reg (slice_get blocks number) (found_at found) number

-- ---- a loop

abbrev pub readings_by : Reg → Option ℕ → List Reading
readings_by reg None = []
readings_by reg (Some line) = record { reg = reg; line = line } ∷ []

-- by this register, if it is one of these
abbrev pub readings_if : List Serial → ℕ → RegSet → Option Reg → List Reading
readings_if blocks number but None = []
readings_if blocks number but (Some reg) = if reg_in but reg then readings_by reg (line_reading blocks reg number) else []

abbrev pub readings_of_register : List Serial → ℕ → RegSet → Side → ℕ → List Reading
readings_of_register blocks number but side k = readings_if blocks number but (numbered side k)

abbrev pub readings_of_file : List Serial → ℕ → RegSet → Side → List Reading
readings_of_file blocks number but side = flat_map (readings_of_register blocks number but side) (range_with_len 0 16)

-- what may read these registers from the block of this number on
abbrev pub readings_from : List Serial → ℕ → RegSet → List Reading
readings_from blocks number but = readings_of_file blocks number but A ++ readings_of_file blocks number but B

-- what may read a register that the loop of the block of this number leaves otherwise
abbrev pub readings_of : List Serial → ℕ → LoopVerdict → List Reading
readings_of blocks number (SameBut trips cycles first last but) = readings_from blocks (block_behind blocks number) but
readings_of blocks number verdict = []

-- nothing may
abbrev pub is_unread : List Serial → ℕ → LoopVerdict → Bool
is_unread blocks number verdict = length (readings_of blocks number verdict) == 0
