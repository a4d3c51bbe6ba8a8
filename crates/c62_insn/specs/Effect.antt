-- What an instruction does, from the values of its condition and of its reads (docs/MACHINE.md, "Instruction table",
-- "Addresses" and "Conditions"; SPRU189, "Individual Instruction Descriptions").
use Rattle.std.specs.Prelude.{ℕ, Bool, true, not, ◌==◌, if◌then◌else◌, List, [], ◌∷◌, Option, Some, None, slice_index}
use Rattle.c62_op.specs.declared.register.Cond.{Cond as Condition}
use Rattle.c62_op.specs.declared.operands.Op.{Op}
use Rattle.c62_op.specs.declared.operands.Operands.{Operands}
use Rattle.c62_op.specs.declared.operands.Operands.TheVariants.{Three, ConstantFirst, ConstantSecond, Two, Field, Constant, Access, Block, Register}
use Rattle.c62_insn.specs.declared.effect.Access.{Access as MemoryAccess}
use Rattle.c62_insn.specs.declared.effect.Target.{Target}
use Rattle.c62_insn.specs.declared.effect.Target.TheVariants.{Block as ToBlock, Register as ToRegister}
use Rattle.c62_op.specs.Word.{word}
use Rattle.c62_op.specs.Shape.{is_store, changes_base}
use Rattle.c62_op.specs.Meaning.{result_of, field_of, size_of, address_of, base_index, base_after, low_bytes_of}

-- whether it runs, its condition's register having this value (SPRU189, "Conditional Operations")
abbrev pub runs_of : Option Condition → Option ℕ → Bool
runs_of (Some cond) (Some value) = if cond.negated then value == 0 else not (value == 0)
runs_of _ _ = true

-- the values written, without that of a load's destination
abbrev pub values_of : Op → Operands → List ℕ → List ℕ
values_of op (Three _ _ _) reads = result_of op (slice_index reads 0) (slice_index reads 1) ∷ []
values_of op (ConstantFirst k _ _) reads = result_of op (word k) (slice_index reads 0) ∷ []
values_of op (ConstantSecond _ k _) reads = result_of op (slice_index reads 0) (word k) ∷ []
values_of op (Two _ _) reads = result_of op (slice_index reads 0) 0 ∷ []
values_of op (Field _ k m _) reads = field_of op (slice_index reads 0) (word k) (word m) ∷ []
values_of op (Constant k _) reads = result_of op (word k) (slice_index reads 0) ∷ []
values_of op (Access _ _ form offset) reads = if changes_base form then base_after op form offset reads ∷ [] else []
values_of op _ reads = []

-- the bytes that a store writes, as a number
abbrev pub stored : Op → List ℕ → Option ℕ
stored op reads = if is_store op then Some (low_bytes_of op (slice_index reads 0)) else None

-- the access of a load or store
abbrev pub access_of : Op → Operands → List ℕ → Option MemoryAccess
access_of op (Access _ _ form offset) reads =
    Some (record { address = address_of form (slice_index reads (base_index op)) (base_after op form offset reads); size = size_of op; value = stored op reads })
access_of op _ reads = None

-- where a branch goes
abbrev pub target_of : Operands → List ℕ → Option Target
target_of (Block number) reads = Some (ToBlock number)
target_of (Register _) reads = Some (ToRegister (slice_index reads 0))
target_of _ reads = None
