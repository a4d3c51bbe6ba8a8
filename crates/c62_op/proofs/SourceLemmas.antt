-- Where the sources of operands lie that a unit takes.
use Rattle.std.proofs.Common.{◌≡◌, Bool, true, false, refl, List, [], ◌∷◌, inl, inr}
use Rattle.std.specs.Prelude.{◌&&◌, ◌||◌, not, ℤ}
use Rattle.std.specs.List.{list_all, list_any}
use Rattle.std.proofs.lemmas.Bool.{and_parts, or_cases, or_parts}
use Rattle.c62_op.specs.declared.register.Side.{Side}
use Rattle.c62_op.specs.declared.register.Side.TheVariants.{A, B}
use Rattle.c62_op.specs.declared.register.Reg.{Reg}
use Rattle.c62_op.specs.declared.register.Unit.{Unit as FunctionalUnit}
use Rattle.c62_op.specs.declared.operands.Op.{Op}
use Rattle.c62_op.specs.declared.operands.Op.TheVariants.{Add}
use Rattle.c62_op.specs.declared.operands.AddressForm.{AddressForm}
use Rattle.c62_op.specs.declared.operands.Offset.{Offset}
use Rattle.c62_op.specs.declared.operands.Operands.{Operands}
use Rattle.c62_op.specs.declared.operands.Operands.TheVariants.{Three, ConstantFirst, ConstantSecond, Two, Field}
use Rattle.c62_op.specs.declared.operands.Operands.TheVariants.{Constant, Access, Block, Register}
use Rattle.c62_op.specs.declared.form.Reach.{Reach}
use Rattle.c62_op.specs.declared.form.Reach.TheVariants.{Own, Crossing}
use Rattle.c62_op.specs.declared.form.Pattern.{Pattern}
use Rattle.c62_op.specs.declared.form.Pattern.TheVariants.{TwoSources, ConstantSource, SourceConstant, OneSource}
use Rattle.c62_op.specs.declared.form.Pattern.TheVariants.{SourceField, Address, FarAddress, ToRegister}
use Rattle.c62_op.specs.Table.{forms_of}
use Rattle.c62_op.specs.Takes.{same_side, same_letter, may_lie, offset_on, holds_constants, registers_fit, takes}
use Rattle.c62_op.specs.Takes.{takes_by, takes_in}
use Rattle.c62_op.specs.Takes.{has_all_of, lets_target_cross}
use Rattle.c62_op.specs.declared.form.Form.{Form}
use Rattle.c62_op.specs.declared.set.InstructionSet.{InstructionSet}
use Rattle.c62_op.specs.Shape.{side_of}
use Rattle.c62_op.specs.Source.{first_source, second_source, lies_across, is_first_fixed, is_second_fixed}
use Rattle.c62_op.specs.Source.{target_may_cross}
use Rattle.c62_op.proofs.Registers.{same_side-is, same_side-refl}
use Rattle.c62_op.proofs.FormLemmas.{IsTaken, one_form, is_own}

-- which sources each form lets cross: at most one, and none that the operation has fixed
abbrev stays : Op → Pattern → Bool
stays op (TwoSources first second) = (is_own first || is_own second) && (not (is_first_fixed op) || is_own first) &&
    (not (is_second_fixed op) || is_own second)
stays op (ConstantSource range reach) = not (is_second_fixed op) || is_own reach
stays op (SourceConstant reach range) = not (is_first_fixed op) || is_own reach
stays op (OneSource reach) = not (is_first_fixed op) || is_own reach
stays op _ = true

all_stay : (op : Op) → list_all (λ form. stays op form.pattern) (forms_of op) ≡ true
all_stay Add = refl
all_stay _ = refl

taken : (op : Op) (operands : Operands) (unit : FunctionalUnit) → takes op operands unit ≡ true
    → IsTaken (λ letter. stays op) operands unit
taken op operands unit any = one_form (λ letter. stays op) operands unit (forms_of op) any (all_stay op)

-- ---- tests

one_of : (p q x y : Bool) → (p || q) ≡ true → (p ≡ true → x ≡ false) → (q ≡ true → y ≡ false) → (x && y) ≡ false
one_of true q false y any f g = refl
one_of true q true y any f g = absurd (let e : true ≡ false = f refl in cc)
one_of false true false y any f g = refl
one_of false true true y any f g = g refl
one_of false false x y any f g = absurd cc

unless_fixed : (fixed own across : Bool) → (not fixed || own) ≡ true → (own ≡ true → across ≡ false)
    → (fixed && across) ≡ false
unless_fixed true own across kept f = f kept
unless_fixed false own across kept f = refl

not_second : (a : Bool) → (a && false) ≡ false
not_second true = refl
not_second false = refl

-- ---- where registers lie

in_file : (reach : Reach) (side : Side) (a d : Reg) → may_lie reach side a ≡ true → same_side d.side side ≡ true
    → is_own reach ≡ true
    → not (same_side a.side d.side) ≡ false
in_file Own side a d lies on own =
    rw (same_side-is a.side side lies, same_side-is d.side side on, same_side-refl side) refl
in_file Crossing side a d lies on own = absurd cc

-- what two sources keep: they do not both lie across, and a fixed one does not
pub record KeepsSources (op : Op) (operands : Operands) : Type 0 where
  pub one : (lies_across (side_of operands) (first_source operands) && lies_across (side_of operands)
      (second_source operands)) ≡ false
  pub first : (is_first_fixed op && lies_across (side_of operands) (first_source operands)) ≡ false
  pub second : (is_second_fixed op && lies_across (side_of operands) (second_source operands)) ≡ false

keeps_sources : (op : Op) (pattern : Pattern) (side : Side) (operands : Operands)
    → holds_constants pattern operands ≡ true → registers_fit pattern side operands ≡ true → stays op pattern ≡ true
    → KeepsSources op operands
keeps_sources op (TwoSources first second) side (Three a b d) holds lies kept =
    let on = and_parts (may_lie first side a && may_lie second side b) (same_side d.side side) lies in
    let both = and_parts (may_lie first side a) (may_lie second side b) on.0 in
    let fixed = and_parts ((is_own first || is_own second) && (not (is_first_fixed op) || is_own first))
    (not (is_second_fixed op) || is_own second) kept in
    let own = and_parts (is_own first || is_own second) (not (is_first_fixed op) || is_own first) fixed.0 in
    record {
      one = one_of (is_own first) (is_own second) _ _ own.0 (in_file first side a d both.0 on.1)
          (in_file second side b d both.1 on.1);
      first = unless_fixed (is_first_fixed op) (is_own first) _ own.1 (in_file first side a d both.0 on.1);
      second = unless_fixed (is_second_fixed op) (is_own second) _ fixed.1 (in_file second side b d both.1 on.1);
    }
keeps_sources op (ConstantSource range reach) side (ConstantFirst k a d) holds lies kept =
    let on = and_parts (may_lie reach side a) (same_side d.side side) lies in
    record {
      one = refl;
      first = not_second (is_first_fixed op);
      second = unless_fixed (is_second_fixed op) (is_own reach) _ kept (in_file reach side a d on.0 on.1);
    }
keeps_sources op (SourceConstant reach range) side (ConstantSecond a k d) holds lies kept =
    let on = and_parts (may_lie reach side a) (same_side d.side side) lies in
    record {
      one = not_second _;
      first = unless_fixed (is_first_fixed op) (is_own reach) _ kept (in_file reach side a d on.0 on.1);
      second = not_second (is_second_fixed op);
    }
keeps_sources op (OneSource reach) side (Two a d) holds lies kept =
    let on = and_parts (may_lie reach side a) (same_side d.side side) lies in
    record {
      one = not_second _;
      first = unless_fixed (is_first_fixed op) (is_own reach) _ kept (in_file reach side a d on.0 on.1);
      second = not_second (is_second_fixed op);
    }
keeps_sources op (SourceField range) side (Field a k m d) holds lies kept =
    let on = and_parts (same_side a.side side) (same_side d.side side) lies in
    record {
      one = not_second _;
      first = rw (in_file Own side a d on.0 on.1 refl) (not_second (is_first_fixed op));
      second = not_second (is_second_fixed op);
    }
keeps_sources op pattern side (Constant k d) holds lies kept = record
    { one = refl; first = not_second (is_first_fixed op); second = not_second (is_second_fixed op) }
keeps_sources op pattern side (Access reg base form offset) holds lies kept =
    record { one = refl; first = not_second (is_first_fixed op); second = not_second (is_second_fixed op) }
keeps_sources op pattern side (Block number) holds lies kept = record
    { one = refl; first = not_second (is_first_fixed op); second = not_second (is_second_fixed op) }
keeps_sources op pattern side (Register target) holds lies kept = record
    { one = refl; first = not_second (is_first_fixed op); second = not_second (is_second_fixed op) }
keeps_sources op _ side _ holds lies kept = absurd cc

pub taken_sources : (op : Op) (operands : Operands) (unit : FunctionalUnit) → takes op operands unit ≡ true
    → KeepsSources op operands
taken_sources op operands unit taking = let t = taken op operands unit taking in keeps_sources op t.pattern unit.side
    operands t.holds t.lies t.kept

field_source : (pattern : Pattern) (side : Side) (a d : Reg) (k m : ℤ)
    → registers_fit pattern side (Field a k m d) ≡ true
    → not (same_side a.side d.side) ≡ false
field_source (SourceField range) side a d k m lies =
    let on = and_parts (same_side a.side side) (same_side d.side side) lies in in_file Own side a d on.0 on.1 refl
field_source _ side a d k m lies = absurd cc

-- the source of a field that constants tell lies in the destination's file
pub taken_field : (op : Op) (unit : FunctionalUnit) (a : Reg) (k m : ℤ) (d : Reg) → takes op (Field a k m d) unit ≡ true
    → not (same_side a.side d.side) ≡ false
taken_field op unit a k m d taking =
    let t = taken op (Field a k m d) unit taking in field_source t.pattern unit.side a d k m t.lies

offset_of : (pattern : Pattern) (side : Side) (reg base : Reg) (form : AddressForm) (offset : Offset)
    → registers_fit pattern side (Access reg base form offset) ≡ true
    → offset_on base.side offset ≡ true
offset_of (Address range) side reg base form offset lies =
    let on = and_parts (same_side base.side side) (offset_on side offset) lies in
    rw (same_side-is base.side side on.0) on.1
offset_of (FarAddress range) side reg base form offset lies =
    let on = and_parts (same_side base.side side) (offset_on side offset)
    (and_parts (same_side base.side side && offset_on side offset) (same_side side B) lies).0 in
    rw (same_side-is base.side side on.0) on.1
offset_of _ side reg base form offset lies = absurd cc

-- an offset register lies on its base's side
pub taken_offset : (op : Op) (unit : FunctionalUnit) (reg base : Reg) (form : AddressForm) (offset : Offset)
    → takes op (Access reg base form offset) unit ≡ true
    → offset_on base.side offset ≡ true
taken_offset op unit reg base form offset taking =
    let t = taken op (Access reg base form offset) unit taking in offset_of t.pattern unit.side reg base form offset
    t.lies

-- ---- what a branch goes to

-- a form that one test takes and another doesn't
some_without : (p q : Form → Bool) (forms : List Form) → list_any p forms ≡ true → list_any q forms ≡ false
    → (form : Form) × (p form ≡ true) × (q form ≡ false)
some_without p q [] any none = absurd cc
some_without p q (form ∷ forms) any none =
    let left = or_parts (q form) (list_any q forms) none in
    elim (or_cases (p form) (list_any p forms) any) [
      | inl here ↦ (form, here, left.0)
      | inr later ↦ some_without p q forms later left.1
    ]

target_of : (pattern : Pattern) (side : Side) (target : Reg) → registers_fit pattern side (Register target) ≡ true
    → lets_target_cross pattern ≡ false → same_side target.side A ≡ false
target_of (ToRegister Own) side target lies own =
    let both = and_parts (same_side side B) (same_side target.side side) lies in
    rw (same_side-is target.side side both.1, same_side-is side B both.0) refl
target_of (ToRegister Crossing) side target lies own = absurd cc
target_of _ side target lies own = absurd cc

-- a branch's register lies in file B, where no form of the set lets it cross
pub taken_target : (set : InstructionSet) (op : Op) (unit : FunctionalUnit) (target : Reg)
    → takes_in set op (Register target) unit ≡ true → target_may_cross set op ≡ false
    → same_side target.side A ≡ false
taken_target set op unit target taking fixed =
    let found = some_without (λ form. has_all_of set form.set && takes_by form (Register target) unit)
    (λ form. has_all_of set form.set && lets_target_cross form.pattern) (forms_of op) taking fixed in
    let form = found.0 in
    let both = and_parts (has_all_of set form.set) (takes_by form (Register target) unit) found.1 in
    let own : lets_target_cross form.pattern ≡ false = rw both.0 at found.2 in
    target_of form.pattern unit.side target
    (and_parts (holds_constants form.pattern (Register target) && same_letter form.letter unit.letter)
    (registers_fit form.pattern unit.side (Register target)) both.1).1 own
