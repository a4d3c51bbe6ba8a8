-- Instructions that are the same always depend on each other.
use Rattle.std.specs.Prelude.{◌≡◌, ℕ, ◌<◌, pos, false, List, slice_get, Some}
use Rattle.c62_op.specs.Shape.{is_branch}
use Rattle.c62_insn.specs.declared.insn.Insn.{Insn}
use Rattle.c62_insn.specs.Insn.{IsSameInsn, op_of}
use Rattle.c62_rules.specs.Dependence.{Bounds}

-- of two that are the same, and no branches, the later one comes at least a cycle behind the earlier one
abbrev pub AreInOrder : List Insn → Type 0
AreInOrder block = (i j : ℕ) (p q : Insn) → slice_get block i ≡ Some p → slice_get block j ≡ Some q → i < j → IsSameInsn p q → is_branch (op_of p) ≡ false
    → Bounds block i j (pos 1)
