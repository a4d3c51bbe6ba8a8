-- Why an operation, operands, condition and written unit make no instruction: five tests in their order (docs/MACHINE.md,
-- "Form faults"). The order is this project's own.
use Rattle.std.specs.Prelude.{ℕ, Bool, false, ◌&&◌, ◌||◌, not, ◌==◌, nat_lt, if◌then◌else◌, List, Option, Some, None, codes}
use Rattle.std.specs.List.{list_any}
use Rattle.c62_op.specs.declared.register.Side.{Side}
use Rattle.c62_op.specs.declared.register.Side.TheVariants.{A, B}
use Rattle.c62_op.specs.declared.register.Cond.{Cond as Condition}
use Rattle.c62_op.specs.declared.register.Unit.{Unit as FunctionalUnit}
use Rattle.c62_op.specs.declared.operands.Op.{Op}
use Rattle.c62_op.specs.declared.operands.Operands.{Operands}
use Rattle.c62_op.specs.declared.operands.Operands.TheVariants.{Field, Access, Register}
use Rattle.c62_op.specs.declared.set.InstructionSet.{InstructionSet}
use Rattle.c62_op.specs.declared.set.InstructionSet.TheVariants.{Full}
use Rattle.c62_insn.specs.declared.fault.FormFault.{FormFault}
use Rattle.c62_insn.specs.declared.fault.FormFault.TheVariants.{NoUnit, ConstantRange, TwoCrossed, BadSide, BadCondition}
use Rattle.c62_op.specs.Units.{all_units}
use Rattle.c62_op.specs.Takes.{same_side, has_kind_in, in_some_range_in, offset_on, takes_in}
use Rattle.c62_op.specs.Shape.{accesses_or_branches, side_of}
use Rattle.c62_op.specs.Source.{first_source, second_source, lies_across, is_first_fixed, is_second_fixed, target_may_cross}

-- the name of a fault (docs/SERIAL_TEXT.md, "Faults of a line")
abbrev pub form_name : FormFault → List ℕ
form_name NoUnit = codes "NoUnit"
form_name ConstantRange = codes "ConstantRange"
form_name TwoCrossed = codes "TwoCrossed"
form_name BadSide = codes "BadSide"
form_name BadCondition = codes "BadCondition"

-- A1, A2, B0, B1 and B2 may be a condition (SPRU189, "Conditional Operations")
abbrev pub may_condition : Side → ℕ → Bool
may_condition A number = number == 1 || number == 2
may_condition B number = nat_lt number 3

abbrev pub bad_condition : Option Condition → Bool
bad_condition None = false
bad_condition (Some cond) = not (may_condition cond.reg.side cond.reg.number)

-- a constant lies outside all ranges that forms of the set give it
abbrev pub constant_out_of_range : InstructionSet → Op → Operands → Bool
constant_out_of_range set op operands = has_kind_in set op operands && not (in_some_range_in set op operands)

-- two sources, both on the side other than the destination's
abbrev pub two_crossed : Op → Operands → Bool
two_crossed op operands =
    not (accesses_or_branches op) && lies_across (side_of operands) (first_source operands) && lies_across (side_of operands) (second_source operands)

-- whether a source that no form lets cross lies across, that of a field which constants tell, an offset register on the other side
-- than its base, or a branch register in file A, which the full set alone lets cross
abbrev pub has_misplaced : InstructionSet → Op → Operands → Bool
has_misplaced set op (Access _ base _ offset) = not (offset_on base.side offset)
has_misplaced set op (Register target) = same_side target.side A && not (target_may_cross set op)
has_misplaced set op (Field a _ _ d) = not (same_side a.side d.side)
has_misplaced set op operands =
    (is_first_fixed op && lies_across (side_of operands) (first_source operands))
    || (is_second_fixed op && lies_across (side_of operands) (second_source operands))

-- the written unit lies on the other side than the instruction
abbrev pub is_other_side : Option Side → Option FunctionalUnit → Bool
is_other_side (Some side) (Some unit) = not (same_side unit.side side)
is_other_side _ _ = false

abbrev pub bad_side : InstructionSet → Op → Operands → Option FunctionalUnit → Bool
bad_side set op operands unit = has_misplaced set op operands || is_other_side (side_of operands) unit

-- no unit, or not the written one, takes the operands by a form of the set
abbrev pub no_unit : InstructionSet → Op → Operands → Option FunctionalUnit → Bool
no_unit set op operands None = not (list_any (takes_in set op operands) all_units)
no_unit set op operands (Some unit) = not (takes_in set op operands unit)

-- the first fault that applies, by the forms of a set
abbrev pub fault_in : InstructionSet → Op → Operands → Option Condition → Option FunctionalUnit → Option FormFault
fault_in set op operands cond unit =
    if bad_condition cond then Some BadCondition
    else if constant_out_of_range set op operands then Some ConstantRange
    else if two_crossed op operands then Some TwoCrossed
    else if bad_side set op operands unit then Some BadSide
    else if no_unit set op operands unit then Some NoUnit
    else None

-- the same by all forms of the table
abbrev pub form_fault : Op → Operands → Option Condition → Option FunctionalUnit → Option FormFault
form_fault = fault_in Full
