-- Operands that a unit takes have no fault but one of condition and unit.
use Rattle.std.proofs.Common.{◌≡◌, Bool, true, false, refl, sym, ◌∙◌, Option, Some, None, ◌⊎◌, inl, inr}
use Rattle.std.specs.Prelude.{◌&&◌, ◌||◌, not}
use Rattle.c62_op.specs.declared.register.Side.{Side}
use Rattle.c62_op.specs.declared.register.Cond.{Cond as Condition}
use Rattle.c62_op.specs.declared.register.Unit.{Unit as FunctionalUnit}
use Rattle.c62_op.specs.declared.operands.Op.{Op}
use Rattle.c62_op.specs.declared.operands.Operands.{Operands}
use Rattle.c62_op.specs.declared.register.Side.TheVariants.{A}
use Rattle.c62_op.specs.declared.operands.Operands.TheVariants.{Field, Access, Register}
use Rattle.c62_op.specs.declared.set.InstructionSet.{InstructionSet}
use Rattle.c62_op.specs.declared.set.InstructionSet.TheVariants.{Full}
use Rattle.std.specs.List.{list_any}
use Rattle.std.proofs.lemmas.Bool.{not-false, not_from_true}
use Rattle.c62_op.specs.Units.{all_units}
use Rattle.c62_op.specs.Takes.{same_side, takes, takes_in, has_kind_in}
use Rattle.c62_op.specs.Shape.{side_of, accesses_or_branches}
use Rattle.c62_op.specs.Source.{first_source, second_source, lies_across, target_may_cross}
use Rattle.c62_op.proofs.TakenTests.{any_weaker, taken_constants, taken_kinds, taken_whole}
use Rattle.c62_op.proofs.SourceLemmas.{taken_sources, taken_offset, taken_field, taken_target}
use Rattle.c62_insn.specs.Fault.{fault_in, form_fault, bad_condition, constant_out_of_range, two_crossed, has_misplaced}
use Rattle.c62_insn.specs.Fault.{is_other_side, bad_side, no_unit}
use Rattle.c62_insn.specs.declared.insn.Insn.{Insn}
use Rattle.c62_insn.specs.Insn.{op_of, operands_of, cond_of}
use Rattle.c62_insn.proofs.FaultLemmas.{faultless, some_unit}
use Rattle.c62_insn.proofs.InsnLemmas.{no_fault, own_side}

not_second : (a : Bool) → (a && false) ≡ false
not_second true = refl
not_second false = refl

beside_false : (a b : Bool) → a ≡ false → b ≡ false → (a || b) ≡ false
beside_false a b p q = rw (p, q) refl

-- ---- the faults

constants_taken : (set : InstructionSet) (op : Op) (operands : Operands) (unit : FunctionalUnit)
    → takes_in set op operands unit ≡ true → constant_out_of_range set op operands ≡ false
constants_taken set op operands unit taking = rw (taken_constants set op operands unit taking)
    (not_second (has_kind_in set op operands))

crossed_of : (reaches a b : Bool) → (a && b) ≡ false → (not reaches && a && b) ≡ false
crossed_of true a b h = refl
crossed_of false a b h = h

taken_crossing : (op : Op) (operands : Operands) (unit : FunctionalUnit) → takes op operands unit ≡ true
    → two_crossed op operands ≡ false
taken_crossing op operands unit taking =
    crossed_of (accesses_or_branches op) (lies_across (side_of operands) (first_source operands))
    (lies_across (side_of operands) (second_source operands))
    (taken_sources op operands unit taking).one

unless_crossing : (across may : Bool) → (may ≡ false → across ≡ false) → (across && not may) ≡ false
unless_crossing across true fixed = not_second across
unless_crossing across false fixed = rw (fixed refl) refl

sides_taken : (set : InstructionSet) (op : Op) (operands : Operands) (unit : FunctionalUnit)
    → takes_in set op operands unit ≡ true → has_misplaced set op operands ≡ false
sides_taken set op (Access reg base form offset) unit taking =
    rw (taken_offset op unit reg base form offset (taken_whole set op (Access reg base form offset) unit taking)) refl
sides_taken set op (Register target) unit taking =
    unless_crossing (same_side target.side A) (target_may_cross set op) (taken_target set op unit target taking)
sides_taken set op (Field a k m d) unit taking =
    taken_field op unit a k m d (taken_whole set op (Field a k m d) unit taking)
sides_taken set op operands unit taking =
    let kept = taken_sources op operands unit (taken_whole set op operands unit taking) in
    beside_false _ _ kept.first kept.second

-- ---- an instruction without a fault

-- the operands have no fault on a unit that takes them, nor without a unit
record IsSound (set : InstructionSet) (op : Op) (operands : Operands) : Type 0 where
  pub constants : constant_out_of_range set op operands ≡ false
  pub crossing : two_crossed op operands ≡ false
  pub placed : has_misplaced set op operands ≡ false

sound : (set : InstructionSet) (op : Op) (operands : Operands) (unit : FunctionalUnit)
    → takes_in set op operands unit ≡ true → IsSound set op operands
sound set op operands unit taking = record {
  constants = constants_taken set op operands unit taking;
  crossing = taken_crossing op operands unit (taken_whole set op operands unit taking);
  placed = sides_taken set op operands unit taking;
}

on_own_side : (op : Op) (operands : Operands) (u : FunctionalUnit) (unit : Option FunctionalUnit)
    → takes op operands u ≡ true
    → (unit ≡ None) ⊎ (unit ≡ Some u) → is_other_side (side_of operands) unit ≡ false
on_own_side op operands u unit taking (inl none) = rw none (without_unit (side_of operands))
  where
    without_unit : (side : Option Side) → is_other_side side None ≡ false
    without_unit None = refl
    without_unit (Some side) = refl
on_own_side op operands u unit taking (inr is) = rw is (own_side op operands u (side_of operands) taking refl)

-- parts that pass the tests of condition and unit pass all
faultless_where_taken : (set : InstructionSet) (op : Op) (operands : Operands) (cond : Option Condition)
    (unit : Option FunctionalUnit)
    → bad_condition cond ≡ false → no_unit set op operands unit ≡ false → fault_in set op operands cond unit ≡ None
faultless_where_taken set op operands cond unit condition some =
    let u = some_unit set op operands unit some in
    let s = sound set op operands u.0 u.1 in
    no_fault (bad_condition cond) (constant_out_of_range set op operands) (two_crossed op operands)
    (bad_side set op operands unit) (no_unit set op operands unit)
    condition s.constants s.crossing
    (beside_false _ _ s.placed (on_own_side op operands u.0 unit (taken_whole set op operands u.0 u.1) u.2)) some

-- a unit is found among all where it is found by a form of the set
none_of_all : (set : InstructionSet) (op : Op) (operands : Operands) (unit : Option FunctionalUnit)
    → no_unit set op operands unit ≡ false → no_unit Full op operands unit ≡ false
none_of_all set op operands (Some u) some =
    not_from_true (takes op operands u) (taken_whole set op operands u (not-false (takes_in set op operands u) some))
none_of_all set op operands None some =
    not_from_true (list_any (takes op operands) all_units)
    (any_weaker (takes_in set op operands) (takes op operands) all_units (taken_whole set op operands)
    (not-false (list_any (takes_in set op operands) all_units) some))

-- parts that have no fault by the forms of a set have none by all
pub whole : (set : InstructionSet) (op : Op) (operands : Operands) (cond : Option Condition)
    (unit : Option FunctionalUnit)
    → fault_in set op operands cond unit ≡ None → form_fault op operands cond unit ≡ None
whole set op operands cond unit h =
    let f = faultless set op operands cond unit h in
    faultless_where_taken Full op operands cond unit f.condition (none_of_all set op operands unit f.taken)

pub unnot : (a : Bool) → not a ≡ true → a ≡ false
unnot true h = cc
unnot false h = refl

pub faultless_of : (set : InstructionSet) (op : Op) (operands : Operands) (cond : Option Condition)
    (unit : Option FunctionalUnit)
    (bad none : Bool)
    → bad ≡ bad_condition cond → none ≡ no_unit set op operands unit → bad ≡ false → not none ≡ true
    → fault_in set op operands cond unit ≡ None
faultless_of set op operands cond unit bad none bad_is none_is good some =
    faultless_where_taken set op operands cond unit (sym bad_is ∙ good) (sym none_is ∙ unnot none some)

-- an instruction has no fault by the forms of a set on a unit that takes it by one of them
pub faultless_in : (set : InstructionSet) (insn : Insn) (u : FunctionalUnit)
    → takes_in set (op_of insn) (operands_of insn) u ≡ true
    → fault_in set (op_of insn) (operands_of insn) (cond_of insn) (Some u) ≡ None
faultless_in set insn u taking =
    faultless_where_taken set insn.op insn.operands insn.cond (Some u)
    (faultless Full insn.op insn.operands insn.cond insn.unit insn.well_formed).condition
    (not_from_true (takes_in set insn.op insn.operands u) taking)

-- parts without a fault have operands of a kind that the set has
pub kind_in : (set : InstructionSet) (op : Op) (operands : Operands) (cond : Option Condition)
    (unit : Option FunctionalUnit)
    → fault_in set op operands cond unit ≡ None → has_kind_in set op operands ≡ true
kind_in set op operands cond unit none =
    let u = some_unit set op operands unit (faultless set op operands cond unit none).taken in
    taken_kinds set op operands u.0 u.1
