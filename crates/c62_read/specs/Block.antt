-- Blocks of serial text.
use Rattle.std.specs.Prelude.{◌≡◌, ◌≤◌, ℕ, Bool, true, false, not, ◌&&◌, nat_le, List, [], ◌∷◌, length, map, Option, Some, None, is_some}
use Rattle.std.specs.List.{list_all, slice_get}
use Rattle.c62_op.specs.declared.operands.Op.{Op}
use Rattle.c62_op.specs.declared.operands.Operands.{Operands}
use Rattle.c62_op.specs.declared.operands.Operands.TheVariants.{Block as BlockNumber}
use Rattle.c62_insn.specs.Insn.{op_of, operands_of}
use Rattle.c62_read.specs.declared.limits.TheConstants.{MOST_INSTRUCTIONS, MOST_BLOCKS}
use Rattle.c62_read.specs.declared.block.SerialInsn.{SerialInsn}
use Rattle.c62_op.specs.Shape.{is_branch}

-- a block's label, and its instructions with their lines
pub record Serial : Type 0 where
  pub label : Option (List ℕ)
  pub insns : List SerialInsn

-- only the last may be a branch
abbrev pub branch_last : List Op → Bool
branch_last [] = true
branch_last (op ∷ []) = true
branch_last (op ∷ next ∷ ops) = not (is_branch op) && branch_last (next ∷ ops)

abbrev pub operations : List SerialInsn → List Op
operations insns = map (λ entry. op_of entry.insn) insns

-- at most 256 instructions, and a branch only as the last
abbrev pub is_block : List SerialInsn → Bool
is_block insns = nat_le (length insns) MOST_INSTRUCTIONS && branch_last (operations insns)

-- ---- branches to labels

-- the labels of the blocks, by their numbers
abbrev pub labels_in : List Serial → List (Option (List ℕ))
labels_in blocks = map (λ block. block.label) blocks

-- whether a block is there and has a label
abbrev pub is_labelled : Option (Option (List ℕ)) → Bool
is_labelled None = false
is_labelled (Some label) = is_some label

-- whether the block that these operands name, if any, is there and has a label
abbrev pub target_stands : List (Option (List ℕ)) → Operands → Bool
target_stands labels (BlockNumber k) = is_labelled (slice_get labels k)
target_stands labels operands = true

-- every branch to a label goes to a block that is there and has a label
unfoldable pub targets_stand : List Serial → Bool
targets_stand blocks =
    list_all (λ block. list_all (λ entry. target_stands (labels_in blocks) (operands_of entry.insn)) block.insns) blocks

-- what always holds of a program: it has so many blocks at most, and its branches have targets
abbrev pub IsProgram : List Serial → Type 0
IsProgram blocks = (length blocks ≤ MOST_BLOCKS) × (targets_stand blocks ≡ true)
