-- What the parts of an instruction keep, since it has no form fault.
use Rattle.std.proofs.Common.{◌≡◌, Bool, true, false, refl, Option, Some, None, List, [], ◌∷◌, ◌⊎◌, inl, inr}
use Rattle.std.specs.Prelude.{◌||◌, if◌then◌else◌}
use Rattle.std.specs.List.{list_any}
use Rattle.std.proofs.lemmas.Bool.{not-false}
use Rattle.c62_op.specs.declared.register.Cond.{Cond as Condition}
use Rattle.c62_op.specs.declared.register.Unit.{Unit as FunctionalUnit}
use Rattle.c62_op.specs.declared.operands.Op.{Op}
use Rattle.c62_op.specs.declared.operands.Operands.{Operands}
use Rattle.c62_insn.specs.declared.fault.FormFault.TheVariants.{NoUnit, ConstantRange, TwoCrossed, BadSide}
use Rattle.c62_insn.specs.declared.fault.FormFault.TheVariants.{BadCondition}
use Rattle.c62_op.specs.Takes.{takes_in}
use Rattle.c62_op.specs.declared.set.InstructionSet.{InstructionSet}
use Rattle.c62_insn.specs.Fault.{fault_in, bad_condition, constant_out_of_range, two_crossed, bad_side, no_unit}
use Rattle.c62_op.specs.Units.{all_units}

-- none of the five tests holds
pub record IsFaultless (set : InstructionSet) (op : Op) (operands : Operands) (cond : Option Condition)
    (unit : Option FunctionalUnit) : Type 0
  where
    pub condition : bad_condition cond ≡ false
    pub constants : constant_out_of_range set op operands ≡ false
    pub crossing : two_crossed op operands ≡ false
    pub sides : bad_side set op operands unit ≡ false
    pub taken : no_unit set op operands unit ≡ false

all_false : (a b c d e : Bool)
    → (if a then Some BadCondition else if b then Some ConstantRange else if c then Some TwoCrossed else if d then Some
    BadSide else if e then Some NoUnit else None) ≡ None
    → (a ≡ false) × (b ≡ false) × (c ≡ false) × (d ≡ false) × (e ≡ false)
all_false true b c d e h = cc
all_false false true c d e h = cc
all_false false false true d e h = cc
all_false false false false true e h = cc
all_false false false false false true h = cc
all_false false false false false false h = (refl, refl, refl, refl, refl)

pub faultless : (set : InstructionSet) (op : Op) (operands : Operands) (cond : Option Condition)
    (unit : Option FunctionalUnit)
    → fault_in set op operands cond unit ≡ None → IsFaultless set op operands cond unit
faultless set op operands cond unit h =
    let f = all_false (bad_condition cond) (constant_out_of_range set op operands) (two_crossed op operands)
    (bad_side set op operands unit) (no_unit set op operands unit) h in
    record { condition = f.0; constants = f.1; crossing = f.2; sides = f.3; taken = f.4 }

one_of : (test : FunctionalUnit → Bool) (units : List FunctionalUnit) → list_any test units ≡ true
    → (u : FunctionalUnit) × (test u ≡ true)
one_of test [] h = cc
one_of test (u ∷ us) h = one_or (test u) (list_any test us) u h refl (one_of test us)
  where
    one_or : (a b : Bool) (u : FunctionalUnit) → (a || b) ≡ true → test u ≡ a
        → (b ≡ true → (v : FunctionalUnit) × (test v ≡ true)) → (v : FunctionalUnit) × (test v ≡ true)
    one_or true b u h e rest = (u, e)
    one_or false b u h e rest = rest h

-- some unit takes the operands, the written one where one is written
pub some_unit : (set : InstructionSet) (op : Op) (operands : Operands) (unit : Option FunctionalUnit)
    → no_unit set op operands unit ≡ false
    → (u : FunctionalUnit) × (takes_in set op operands u ≡ true) × ((unit ≡ None) ⊎ (unit ≡ Some u))
some_unit set op operands (Some u) h = (u, not-false (takes_in set op operands u) h, inr refl)
some_unit set op operands None h =
    let found = one_of (takes_in set op operands) all_units
    (not-false (list_any (takes_in set op operands) all_units) h) in
    (found.0, found.1, inl refl)
