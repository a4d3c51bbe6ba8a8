-- The first and the second source of an instruction, and which may not come over the cross path (docs/MACHINE.md, "Form faults").
use Rattle.std.specs.Prelude.{Bool, false, not, ◌&&◌, Option, Some, None}
use Rattle.std.specs.List.{list_any}
use Rattle.c62_op.specs.declared.register.Side.{Side}
use Rattle.c62_op.specs.declared.register.Reg.{Reg}
use Rattle.c62_op.specs.declared.operands.Op.{Op}
use Rattle.c62_op.specs.declared.operands.Operands.{Operands}
use Rattle.c62_op.specs.declared.operands.Operands.TheVariants.{Three, ConstantFirst, ConstantSecond, Two, Field}
use Rattle.c62_op.specs.declared.set.InstructionSet.{InstructionSet}
use Rattle.c62_op.specs.Table.{row_of, forms_of}
use Rattle.c62_op.specs.Takes.{same_side, has_all_of, lets_target_cross}

-- the register that stands as the first source, and as the second
abbrev pub first_source : Operands → Option Reg
first_source (Three a _ _) = Some a
first_source (ConstantSecond a _ _) = Some a
first_source (Two a _) = Some a
first_source (Field a _ _ _) = Some a
first_source _ = None

abbrev pub second_source : Operands → Option Reg
second_source (Three _ b _) = Some b
second_source (ConstantFirst _ a _) = Some a
second_source _ = None

-- whether there is such a register, on the other side than the instruction
abbrev pub lies_across : Option Side → Option Reg → Bool
lies_across (Some side) (Some reg) = not (same_side reg.side side)
lies_across _ _ = false

-- operations whose first source no form lets cross. That of a field of bits crosses where a register tells the field, and else not.
abbrev pub is_first_fixed : Op → Bool
is_first_fixed op = (row_of op).first_is_fixed

-- operations whose second source no form lets cross: the count of a shift, the register that tells a field, and a source of ADDAB
-- and its like
abbrev pub is_second_fixed : Op → Bool
is_second_fixed op = (row_of op).second_is_fixed

-- whether some form of the set lets the register that a branch goes to come over the cross path
abbrev pub target_may_cross : InstructionSet → Op → Bool
target_may_cross set op = list_any (λ form. has_all_of set form.set && lets_target_cross form.pattern) (forms_of op)
