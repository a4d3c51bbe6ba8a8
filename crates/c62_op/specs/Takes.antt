-- Which operands a form takes, and so which units an instruction may stand on (docs/MACHINE.md, "Instruction table" and
-- "Cross paths"; SPRU189, "Register File Cross Paths" and "Mapping Between Instructions and Functional Units").
use Rattle.std.specs.Prelude.{Bool, true, false, ◌&&◌, ◌||◌, ◌==◌, ℤ, int_le, Option, Some, None}
use Rattle.std.specs.List.{list_any}
use Rattle.c62_op.specs.declared.register.Side.{Side}
use Rattle.c62_op.specs.declared.register.Side.TheVariants.{A, B}
use Rattle.c62_op.specs.declared.register.Reg.{Reg}
use Rattle.c62_op.specs.declared.register.Letter.{Letter}
use Rattle.c62_op.specs.declared.register.Letter.TheVariants.{L, S, M, D}
use Rattle.c62_op.specs.declared.register.Unit.{Unit as FunctionalUnit}
use Rattle.c62_op.specs.declared.operands.Op.{Op}
use Rattle.c62_op.specs.declared.operands.AddressForm.{AddressForm}
use Rattle.c62_op.specs.declared.operands.AddressForm.TheVariants.{Plus}
use Rattle.c62_op.specs.declared.operands.Offset.{Offset}
use Rattle.c62_op.specs.declared.operands.Offset.TheVariants.{Constant as ByConstant, Register as ByRegister}
use Rattle.c62_op.specs.declared.operands.Operands.{Operands}
use Rattle.c62_op.specs.declared.operands.Operands.TheVariants.{Three, ConstantFirst, ConstantSecond, Two, Field, Constant, Access, Block, Register}
use Rattle.c62_op.specs.declared.form.Reach.{Reach}
use Rattle.c62_op.specs.declared.form.Reach.TheVariants.{Own, Crossing}
use Rattle.c62_op.specs.declared.form.Range.{Range}
use Rattle.c62_op.specs.declared.form.Pattern.{Pattern}
use Rattle.c62_op.specs.declared.form.Pattern.TheVariants.{TwoSources, ConstantSource, SourceConstant, OneSource, SourceField, ConstantAlone, Address, FarAddress, ToBlock, ToRegister}
use Rattle.c62_op.specs.declared.form.Form.{Form}
use Rattle.c62_op.specs.declared.set.InstructionSet.{InstructionSet}
use Rattle.c62_op.specs.declared.set.InstructionSet.TheVariants.{Core, Full}
use Rattle.c62_op.specs.Table.{forms_of}

abbrev pub same_side : Side → Side → Bool
same_side A A = true
same_side A B = false
same_side B A = false
same_side B B = true

abbrev pub same_letter : Letter → Letter → Bool
same_letter L L = true
same_letter S S = true
same_letter M M = true
same_letter D D = true
same_letter _ _ = false

abbrev pub same_reg : Reg → Reg → Bool
same_reg a b = same_side a.side b.side && (a.number == b.number)

abbrev pub same_unit : FunctionalUnit → FunctionalUnit → Bool
same_unit a b = same_letter a.letter b.letter && same_side a.side b.side

-- whether a source may lie there: on the unit's own side, or on either, over the cross path
abbrev pub may_lie : Reach → Side → Reg → Bool
may_lie Own side reg = same_side reg.side side
may_lie Crossing side reg = true

abbrev pub in_range : Range → ℤ → Bool
in_range range k = int_le range.low k && int_le k range.high

-- `*+B14[k]` and `*+B15[k]`, whose constant may have 15 bits (SPRU189, "LDB/LDH/LDW (15-Bit Constant Offset)")
abbrev pub is_far_base : Reg → Bool
is_far_base base = same_side base.side B && (base.number == 14 || base.number == 15)

abbrev pub is_plus : AddressForm → Bool
is_plus Plus = true
is_plus _ = false

abbrev pub is_far_access : Reg → AddressForm → Offset → Bool
is_far_access base form (ByConstant k) = is_far_base base && is_plus form
is_far_access base form (ByRegister _) = false

-- whether the operands are of the pattern's kind and number
abbrev pub same_kind : Pattern → Operands → Bool
same_kind (TwoSources _ _) (Three _ _ _) = true
same_kind (ConstantSource _ _) (ConstantFirst _ _ _) = true
same_kind (SourceConstant _ _) (ConstantSecond _ _ _) = true
same_kind (OneSource _) (Two _ _) = true
same_kind (SourceField _) (Field _ _ _ _) = true
same_kind (ConstantAlone _) (Constant _ _) = true
same_kind (Address _) (Access _ _ _ _) = true
same_kind (FarAddress _) (Access _ base form offset) = is_far_access base form offset
same_kind ToBlock (Block _) = true
same_kind (ToRegister _) (Register _) = true
same_kind _ _ = false

abbrev pub offset_in_range : Range → Offset → Bool
offset_in_range range (ByConstant k) = in_range range k
offset_in_range range (ByRegister _) = true

abbrev pub far_offset_in_range : Range → Offset → Bool
far_offset_in_range range (ByConstant k) = in_range range k
far_offset_in_range range (ByRegister _) = false

-- whether besides the constants lie in the pattern's ranges
abbrev pub holds_constants : Pattern → Operands → Bool
holds_constants (ConstantSource range _) (ConstantFirst k _ _) = in_range range k
holds_constants (SourceConstant _ range) (ConstantSecond _ k _) = in_range range k
holds_constants (SourceField range) (Field _ k m _) = in_range range k && in_range range m
holds_constants (ConstantAlone range) (Constant k _) = in_range range k
holds_constants (Address range) (Access _ _ _ offset) = offset_in_range range offset
holds_constants (FarAddress range) (Access _ base form offset) = is_far_access base form offset && far_offset_in_range range offset
holds_constants pattern operands = same_kind pattern operands

-- an offset register lies on the side of its unit ("Memory, Load, and Store Paths")
abbrev pub offset_on : Side → Offset → Bool
offset_on side (ByConstant _) = true
offset_on side (ByRegister reg) = same_side reg.side side

-- whether the registers lie as the pattern wants them on a unit of this side
abbrev pub registers_fit : Pattern → Side → Operands → Bool
registers_fit (TwoSources first second) side (Three a b d) = may_lie first side a && may_lie second side b && same_side d.side side
registers_fit (ConstantSource _ reach) side (ConstantFirst _ a d) = may_lie reach side a && same_side d.side side
registers_fit (SourceConstant reach _) side (ConstantSecond a _ d) = may_lie reach side a && same_side d.side side
registers_fit (OneSource reach) side (Two a d) = may_lie reach side a && same_side d.side side
registers_fit (SourceField _) side (Field a _ _ d) = same_side a.side side && same_side d.side side
registers_fit (ConstantAlone _) side (Constant _ d) = same_side d.side side
registers_fit (Address _) side (Access _ base _ offset) = same_side base.side side && offset_on side offset
registers_fit (FarAddress _) side (Access _ base _ offset) = same_side base.side side && offset_on side offset && same_side side B
registers_fit ToBlock side (Block _) = true
registers_fit (ToRegister reach) side (Register target) = same_side side B && may_lie reach side target
registers_fit _ _ _ = false

-- whether this unit takes the operands by one form, and by any
abbrev pub takes_by : Form → Operands → FunctionalUnit → Bool
takes_by form operands unit =
    holds_constants form.pattern operands && same_letter form.letter unit.letter && registers_fit form.pattern unit.side operands

-- whether some unit takes them by the form
abbrev pub takes_somewhere : Form → Operands → Bool
takes_somewhere form operands =
    holds_constants form.pattern operands && (registers_fit form.pattern A operands || registers_fit form.pattern B operands)

abbrev pub takes : Op → Operands → FunctionalUnit → Bool
takes op operands unit = list_any (λ form. takes_by form operands unit) (forms_of op)

-- whether a register that a branch goes to may come over the cross path
abbrev pub lets_target_cross : Pattern → Bool
lets_target_cross (ToRegister Crossing) = true
lets_target_cross _ = false

-- ---- the two sets of instructions

-- whether what the other set has belongs to this one: what the core has belongs to both
abbrev pub has_all_of : InstructionSet → InstructionSet → Bool
has_all_of Full _ = true
has_all_of Core Core = true
has_all_of Core Full = false

-- whether some form of the operation belongs to the set
abbrev pub is_in : InstructionSet → Op → Bool
is_in set op = list_any (λ form. has_all_of set form.set) (forms_of op)

-- whether this unit takes the operands by a form of the set
abbrev pub takes_in : InstructionSet → Op → Operands → FunctionalUnit → Bool
takes_in set op operands unit = list_any (λ form. has_all_of set form.set && takes_by form operands unit) (forms_of op)

-- whether some form of the set has operands of this kind, and whether besides it takes the constants
abbrev pub has_kind_in : InstructionSet → Op → Operands → Bool
has_kind_in set op operands = list_any (λ form. has_all_of set form.set && same_kind form.pattern operands) (forms_of op)

abbrev pub in_some_range_in : InstructionSet → Op → Operands → Bool
in_some_range_in set op operands = list_any (λ form. has_all_of set form.set && holds_constants form.pattern operands) (forms_of op)

-- ---- units

-- the written unit, where one is written, and else any
abbrev pub is_written : Option FunctionalUnit → FunctionalUnit → Bool
is_written None unit = true
is_written (Some written) unit = same_unit written unit

-- whether some form stands on units of this letter
abbrev pub has_letter : Op → Letter → Bool
has_letter op letter = list_any (λ form. same_letter form.letter letter) (forms_of op)

-- whether some form of the operation has operands of this kind
abbrev pub has_kind : Op → Operands → Bool
has_kind op operands = list_any (λ form. same_kind form.pattern operands) (forms_of op)

-- whether some form besides takes the constants
abbrev pub in_some_range : Op → Operands → Bool
in_some_range op operands = list_any (λ form. holds_constants form.pattern operands) (forms_of op)
