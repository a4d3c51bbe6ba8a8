-- The units that take an instruction lie on its side.
use Rattle.std.proofs.Common.{◌≡◌, ◌∙◌, Bool, true, false, refl, List, [], ◌∷◌, Some}
use Rattle.std.specs.Prelude.{◌||◌, ◌&&◌}
use Rattle.std.specs.List.{list_any}
use Rattle.std.proofs.lemmas.Bool.{and_parts}
use Rattle.c62_op.specs.declared.register.Side.{Side}
use Rattle.c62_op.specs.declared.register.Side.TheVariants.{A, B}
use Rattle.c62_op.specs.declared.register.Reg.{Reg}
use Rattle.c62_op.specs.declared.register.Unit.{Unit as FunctionalUnit}
use Rattle.c62_op.specs.declared.operands.Op.{Op}
use Rattle.c62_op.specs.declared.operands.Operands.{Operands}
use Rattle.c62_op.specs.declared.operands.Operands.TheVariants.{Three, ConstantFirst, ConstantSecond, Two, Field}
use Rattle.c62_op.specs.declared.operands.Operands.TheVariants.{Constant, Access, Block, Register}
use Rattle.c62_op.specs.declared.form.Form.{Form}
use Rattle.c62_op.specs.declared.form.Pattern.{Pattern}
use Rattle.c62_op.specs.declared.form.Pattern.TheVariants.{TwoSources, ConstantSource, SourceConstant, OneSource}
use Rattle.c62_op.specs.declared.form.Pattern.TheVariants.{SourceField, ConstantAlone, Address, FarAddress, ToBlock}
use Rattle.c62_op.specs.declared.form.Pattern.TheVariants.{ToRegister}
use Rattle.c62_op.specs.Table.{forms_of}
use Rattle.c62_op.specs.Takes.{same_side, same_letter, may_lie, offset_on, holds_constants, registers_fit, takes}
use Rattle.c62_op.specs.Shape.{side_of}

one_side : (a b : Side) → same_side a b ≡ true → a ≡ b
one_side A A h = refl
one_side A B h = cc
one_side B A h = cc
one_side B B h = refl

on_side : (d : Reg) (s side : Side) → same_side d.side s ≡ true → Some d.side ≡ Some side → s ≡ side
on_side d s side h e = let same = one_side d.side s h in cc

-- a pattern that lies well on a side has its operands' side there
well_on_side : (pattern : Pattern) (s : Side) (operands : Operands) (side : Side)
    → registers_fit pattern s operands ≡ true → side_of operands ≡ Some side → s ≡ side
well_on_side (TwoSources p q) s (Three a b d) side h e =
    on_side d s side (and_parts (may_lie p s a && may_lie q s b) (same_side d.side s) h).1 e
well_on_side (ConstantSource range p) s (ConstantFirst k a d) side h e = on_side d s side
    (and_parts (may_lie p s a) (same_side d.side s) h).1 e
well_on_side (SourceConstant p range) s (ConstantSecond a k d) side h e = on_side d s side
    (and_parts (may_lie p s a) (same_side d.side s) h).1 e
well_on_side (OneSource p) s (Two a d) side h e = on_side d s side (and_parts (may_lie p s a) (same_side d.side s) h).1
    e
well_on_side (SourceField range) s (Field a k m d) side h e = on_side d s side
    (and_parts (same_side a.side s) (same_side d.side s) h).1 e
well_on_side (ConstantAlone range) s (Constant k d) side h e = on_side d s side h e
well_on_side (Address range) s (Access reg base form offset) side h e = on_side base s side
    (and_parts (same_side base.side s) (offset_on s offset) h).0 e
well_on_side ToBlock s (Block number) side h e = cc
well_on_side (FarAddress range) s (Access reg base form offset) side h e = on_side base s side
    (and_parts (same_side base.side s) (offset_on s offset)
    (and_parts (same_side base.side s && offset_on s offset) (same_side s B) h).0).0 e
well_on_side (ToRegister reach) s (Register target) side h e = one_side s B
    (and_parts (same_side s B) (may_lie reach s target) h).0 ∙ cc
well_on_side _ s _ side h e = cc

form_on_side : (forms : List Form) (operands : Operands) (unit : FunctionalUnit) (side : Side)
    → side_of operands ≡ Some side
    → list_any (λ form. holds_constants form.pattern operands && same_letter form.letter unit.letter && registers_fit
    form.pattern unit.side operands) forms ≡ true
    → unit.side ≡ side
form_on_side [] operands unit side e h = cc
form_on_side (form ∷ forms) operands unit side e h =
    one_or (holds_constants form.pattern operands) (same_letter form.letter unit.letter)
    (registers_fit form.pattern unit.side operands) _ h
    (λ l. well_on_side form.pattern unit.side operands side l e) (form_on_side forms operands unit side e)
  where
    one_or : (a b l rest : Bool) → ((a && b && l) || rest) ≡ true → (l ≡ true → unit.side ≡ side)
        → (rest ≡ true → unit.side ≡ side) → unit.side ≡ side
    one_or true true true rest h well others = well refl
    one_or true true false rest h well others = others h
    one_or true false l rest h well others = others h
    one_or false b l rest h well others = others h

pub takes_on_side : (op : Op) (operands : Operands) (unit : FunctionalUnit) (side : Side) → side_of operands ≡ Some side
    → takes op operands unit ≡ true → unit.side ≡ side
takes_on_side op operands unit side e h = form_on_side (forms_of op) operands unit side e h
