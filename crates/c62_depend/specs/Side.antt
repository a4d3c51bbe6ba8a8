-- The side and the units of an instruction (docs/SCHEDULING.md, "Words").
use Rattle.std.specs.Prelude.{ℕ, Bool, false, ◌&&◌, nat_lt, if◌then◌else◌, List, Option, Some, None, count_by, slice_get}
use Rattle.c62_op.specs.declared.register.Side.{Side}
use Rattle.c62_op.specs.declared.register.Side.TheVariants.{A, B}
use Rattle.c62_op.specs.declared.register.Unit.{Unit as FunctionalUnit}
use Rattle.c62_insn.specs.declared.insn.Insn.{Insn}
use Rattle.c62_op.specs.Takes.{same_side}
use Rattle.c62_op.specs.Shape.{side_of}
use Rattle.c62_insn.specs.Insn.{operands_of, unit_of}
use Rattle.c62_insn.specs.Stands.{may_stand}

abbrev pub is_side : Side → Option Side → Bool
is_side side None = false
is_side side (Some other) = same_side other side

-- how many instructions have operands that decide for this side; those of a branch to a block decide for none
abbrev pub count_on : Side → List Insn → ℕ
count_on side block = count_by (λ insn. is_side side (side_of (operands_of insn))) block

-- a branch to a block stands on the side of its written unit, else on the side with fewer other instructions, for a tie on B
abbrev pub branch_side : List Insn → Option FunctionalUnit → Side
branch_side block (Some unit) = unit.side
branch_side block None = if nat_lt (count_on A block) (count_on B block) then A else B

abbrev pub side_or : Side → Option Side → Side
side_or side None = side
side_or side (Some decided) = decided

-- the side of an instruction of the block
abbrev pub side_in : List Insn → Insn → Side
side_in block insn = side_or (branch_side block (unit_of insn)) (side_of (operands_of insn))

-- whether an instruction may stand on the unit as one of the block: the unit lies on its side
abbrev pub suits : List Insn → Insn → FunctionalUnit → Bool
suits block insn unit = same_side unit.side (side_in block insn) && may_stand insn unit

abbrev pub side_at : List Insn → Option Insn → Side
side_at block None = B
side_at block (Some insn) = side_in block insn

abbrev pub suits_at : List Insn → Option Insn → FunctionalUnit → Bool
suits_at block None unit = false
suits_at block (Some insn) unit = suits block insn unit

-- the side of number i
unfoldable pub side : List Insn → ℕ → Side
side block i = side_at block (slice_get block i)

-- whether number i may stand on the unit
unfoldable pub stands_on : List Insn → ℕ → FunctionalUnit → Bool
stands_on block i unit = suits_at block (slice_get block i) unit
