-- What a unit that takes operands says of single tests.
use Rattle.std.proofs.Common.{◌≡◌, Bool, true, ◌&&◌, List, [], ◌∷◌, refl, inl, inr}
use Rattle.std.specs.List.{list_any}
use Rattle.std.proofs.lemmas.Bool.{and_from, and_parts, or_cases, or_left, or_right}
use Rattle.c62_op.specs.declared.register.Unit.{Unit as FunctionalUnit}
use Rattle.c62_op.specs.declared.operands.Op.{Op}
use Rattle.c62_op.specs.declared.operands.Operands.{Operands}
use Rattle.c62_op.specs.declared.operands.Operands.TheVariants.{ConstantFirst, ConstantSecond, Field, Constant, Access}
use Rattle.c62_op.specs.declared.form.Pattern.{Pattern}
use Rattle.c62_op.specs.declared.form.Pattern.TheVariants.{ConstantSource, SourceConstant, SourceField, ConstantAlone}
use Rattle.c62_op.specs.declared.form.Pattern.TheVariants.{Address, FarAddress}
use Rattle.c62_op.specs.Table.{forms_of}
use Rattle.c62_op.specs.Takes.{same_letter, in_some_range, same_kind, holds_constants, registers_fit, takes, has_letter}
use Rattle.c62_op.specs.Takes.{has_kind, is_far_access, far_offset_in_range, takes_by, takes_in, has_all_of}
use Rattle.c62_op.specs.Takes.{has_kind_in, is_in, in_some_range_in}
use Rattle.c62_op.specs.declared.set.InstructionSet.{InstructionSet}

-- ---- weaker tests

pub any_weaker : {X : Type 0} (p q : X → Bool) (xs : List X) → ((x : X) → p x ≡ true → q x ≡ true)
    → list_any p xs ≡ true → list_any q xs ≡ true
any_weaker p q [] weaker any = absurd cc
any_weaker p q (x ∷ xs) weaker any =
    elim (or_cases (p x) (list_any p xs) any) [
      | inl here ↦ or_left (q x) (list_any q xs) (weaker x here)
      | inr later ↦ or_right (q x) (list_any q xs) (any_weaker p q xs weaker later)
    ]

pub taken_letter : (op : Op) (operands : Operands) (unit : FunctionalUnit) → takes op operands unit ≡ true
    → has_letter op unit.letter ≡ true
taken_letter op operands unit taking =
    any_weaker (λ form. holds_constants form.pattern operands && same_letter form.letter unit.letter && registers_fit
    form.pattern unit.side operands)
    (λ form. same_letter form.letter unit.letter) (forms_of op)
    (λ form here. (and_parts (holds_constants form.pattern operands) (same_letter form.letter unit.letter)
    (and_parts (holds_constants form.pattern operands && same_letter form.letter unit.letter)
    (registers_fit form.pattern unit.side operands) here).0).1) taking

kind_held : (pattern : Pattern) (operands : Operands) → holds_constants pattern operands ≡ true
    → same_kind pattern operands ≡ true
kind_held (ConstantSource range reach) (ConstantFirst k a d) holds = refl
kind_held (SourceConstant reach range) (ConstantSecond a k d) holds = refl
kind_held (SourceField range) (Field a k m d) holds = refl
kind_held (ConstantAlone range) (Constant k d) holds = refl
kind_held (Address range) (Access reg base form offset) holds = refl
kind_held (FarAddress range) (Access reg base form offset) holds =
    (and_parts (is_far_access base form offset) (far_offset_in_range range offset) holds).0
kind_held pattern operands holds = holds

pub taken_kind : (op : Op) (operands : Operands) (unit : FunctionalUnit) → takes op operands unit ≡ true
    → has_kind op operands ≡ true
taken_kind op operands unit taking =
    any_weaker (λ form. holds_constants form.pattern operands && same_letter form.letter unit.letter && registers_fit
    form.pattern unit.side operands)
    (λ form. same_kind form.pattern operands) (forms_of op)
    (λ form here. kind_held form.pattern operands
    (and_parts (holds_constants form.pattern operands) (same_letter form.letter unit.letter)
    (and_parts (holds_constants form.pattern operands && same_letter form.letter unit.letter)
    (registers_fit form.pattern unit.side operands) here).0).0) taking

pub taken_in_range : (op : Op) (operands : Operands) (unit : FunctionalUnit) → takes op operands unit ≡ true
    → in_some_range op operands ≡ true
taken_in_range op operands unit taking =
    any_weaker (λ form. holds_constants form.pattern operands && same_letter form.letter unit.letter && registers_fit
    form.pattern unit.side operands)
    (λ form. holds_constants form.pattern operands) (forms_of op)
    (λ form here. (and_parts (holds_constants form.pattern operands) (same_letter form.letter unit.letter)
    (and_parts (holds_constants form.pattern operands && same_letter form.letter unit.letter)
    (registers_fit form.pattern unit.side operands) here).0).0) taking

-- ---- forms of a set

-- what a unit takes by a form of a set it takes
pub taken_whole : (set : InstructionSet) (op : Op) (operands : Operands) (unit : FunctionalUnit)
    → takes_in set op operands unit ≡ true → takes op operands unit ≡ true
taken_whole set op operands unit taking =
    any_weaker (λ form. has_all_of set form.set && takes_by form operands unit) (λ form. takes_by form operands unit)
    (forms_of op) (λ form here. (and_parts (has_all_of set form.set) (takes_by form operands unit) here).1) taking

-- and that form has the operands' kind, and the constants
pub taken_constants : (set : InstructionSet) (op : Op) (operands : Operands) (unit : FunctionalUnit)
    → takes_in set op operands unit ≡ true → in_some_range_in set op operands ≡ true
taken_constants set op operands unit taking =
    any_weaker (λ form. has_all_of set form.set && takes_by form operands unit)
    (λ form. has_all_of set form.set && holds_constants form.pattern operands) (forms_of op)
    (λ form here. let both = and_parts (has_all_of set form.set) (takes_by form operands unit) here in
    and_from (has_all_of set form.set) (holds_constants form.pattern operands) both.0
    (and_parts (holds_constants form.pattern operands) (same_letter form.letter unit.letter)
    (and_parts (holds_constants form.pattern operands && same_letter form.letter unit.letter)
    (registers_fit form.pattern unit.side operands) both.1).0).0) taking

pub taken_kinds : (set : InstructionSet) (op : Op) (operands : Operands) (unit : FunctionalUnit)
    → takes_in set op operands unit ≡ true → has_kind_in set op operands ≡ true
taken_kinds set op operands unit taking =
    any_weaker (λ form. has_all_of set form.set && takes_by form operands unit)
    (λ form. has_all_of set form.set && same_kind form.pattern operands) (forms_of op)
    (λ form here. let both = and_parts (has_all_of set form.set) (takes_by form operands unit) here in
    and_from (has_all_of set form.set) (same_kind form.pattern operands) both.0
    (kind_held form.pattern operands
    (and_parts (holds_constants form.pattern operands) (same_letter form.letter unit.letter)
    (and_parts (holds_constants form.pattern operands && same_letter form.letter unit.letter)
    (registers_fit form.pattern unit.side operands) both.1).0).0)) taking

-- and so the set has the operation
pub taken_in : (set : InstructionSet) (op : Op) (operands : Operands) (unit : FunctionalUnit)
    → takes_in set op operands unit ≡ true → is_in set op ≡ true
taken_in set op operands unit taking =
    any_weaker (λ form. has_all_of set form.set && takes_by form operands unit) (λ form. has_all_of set form.set)
    (forms_of op) (λ form here. (and_parts (has_all_of set form.set) (takes_by form operands unit) here).0) taking
