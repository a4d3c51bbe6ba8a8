-- The bits of the units that take operands.
use Rattle.std.proofs.Common.{◌≡◌, ◌∙◌, ℕ, ◌+◌, ◌*◌, ◌^◌, ◌%◌, ◌<◌, max, bit_or, Bool, true, false, List, length, take}
use Rattle.std.proofs.Common.{get_or, refl, sym, arith}
use Rattle.std.specs.Prelude.{◌==◌, ◌&&◌, ◌||◌, if◌then◌else◌}
use Rattle.std.specs.List.{list_any}
use Rattle.std.specs.Int.{bit_at}
use Rattle.std.proofs.lemmas.List.Folds.{list_any_more}
use Rattle.std.proofs.lemmas.Nat.Bits.{bit_at-lt, bit_at_or}
use Rattle.std.proofs.lemmas.Bool.Decides.{nat_tests}
use Rattle.c62_op.specs.declared.register.Side.{Side}
use Rattle.c62_op.specs.declared.register.Side.TheVariants.{A, B}
use Rattle.c62_op.specs.declared.register.Letter.{Letter}
use Rattle.c62_op.specs.declared.register.Letter.TheVariants.{L}
use Rattle.c62_op.specs.declared.register.Unit.{Unit as FunctionalUnit}
use Rattle.c62_op.specs.declared.operands.Operands.{Operands}
use Rattle.c62_op.specs.declared.form.Form.{Form}
use Rattle.c62_op.specs.declared.register.Reg.{Reg}
use Rattle.c62_op.specs.declared.operands.AddressForm.{AddressForm}
use Rattle.c62_op.specs.declared.operands.Offset.{Offset}
use Rattle.c62_op.specs.declared.operands.Offset.TheVariants.{Constant as ByConstant, Register as ByRegister}
use Rattle.c62_op.specs.declared.form.Range.{Range}
use Rattle.c62_op.specs.Takes.{same_side, same_letter, holds_constants, registers_fit, takes_by, in_range, is_plus}
use Rattle.c62_op.specs.Takes.{is_far_access, far_offset_in_range, offset_on}
use Rattle.c62_op.specs.Units.{index_on, index_of}
use Rattle.c62_op.proofs.SomewhereLemmas.{on_side}

abbrev one_if : Bool → ℕ
one_if b = if b then 1 else 0

-- the bit of each unit, of one letter on the sides that are told
bits : (letter : Letter) (a b : Bool) (other : Letter) (side : Side)
    → (bit_at ((one_if a + 16 * one_if b) * 2 ^ index_on letter A % 256) (index_on other side) == 1) ≡
    (same_letter letter other && on_side a b side)
bits L true true L A = refl
bits _ true true L A = refl
bits _ true true _ A = refl
bits L true true L B = refl
bits _ true true L B = refl
bits _ true true _ B = refl
bits L true false L A = refl
bits _ true false L A = refl
bits _ true false _ A = refl
bits L true false L B = refl
bits _ true false L B = refl
bits _ true false _ B = refl
bits L false true L A = refl
bits _ false true L A = refl
bits _ false true _ A = refl
bits L false true L B = refl
bits _ false true L B = refl
bits _ false true _ B = refl
bits L false false L A = refl
bits _ false false L A = refl
bits _ false false _ A = refl
bits L false false L B = refl
bits _ false false L B = refl
bits _ false false _ B = refl

moved : (holds letter fits : Bool) → (letter && (holds && fits)) ≡ (holds && letter && fits)
moved true letter fits = refl
moved false true fits = refl
moved false false fits = refl

lettered : (holds letter fits : Bool) → letter ≡ true → (holds && fits) ≡ (holds && letter && fits)
lettered true true fits same = refl
lettered false true fits same = refl
lettered holds false fits same = absurd cc

fits_on : (form : Form) (operands : Operands) (side : Side)
    → on_side (holds_constants form.pattern operands && registers_fit form.pattern A operands)
    (holds_constants form.pattern operands && registers_fit form.pattern B operands) side ≡
    (holds_constants form.pattern operands && registers_fit form.pattern side operands)
fits_on form operands A = refl
fits_on form operands B = refl

-- a form whose letter is the unit's
pub taken_by : (form : Form) (operands : Operands) (unit : FunctionalUnit) (side : Side)
    → same_letter form.letter unit.letter ≡ true → unit.side ≡ side
    → (holds_constants form.pattern operands && registers_fit form.pattern side operands) ≡ takes_by form operands unit
taken_by form operands unit side same is =
    rw is (lettered (holds_constants form.pattern operands) (same_letter form.letter unit.letter)
    (registers_fit form.pattern side operands) same)

pub takers_of : (form : Form) (operands : Operands) (a b : Bool) (x k : ℕ) (unit : FunctionalUnit)
    → a ≡ (holds_constants form.pattern operands && registers_fit form.pattern A operands)
    → b ≡ (holds_constants form.pattern operands && registers_fit form.pattern B operands)
    → x ≡ one_if a + 16 * one_if b → k ≡ index_on form.letter A
    → (bit_at (x * 2 ^ k % 256) (index_of unit) == 1) ≡ takes_by form operands unit
takers_of form operands a b x k unit on_a on_b x_is k_is =
    rw (x_is, k_is)
    (bits form.letter a b unit.letter unit.side
    ∙ rw (on_a, on_b, fits_on form operands unit.side)
    (moved (holds_constants form.pattern operands) (same_letter form.letter unit.letter)
    (registers_fit form.pattern unit.side operands)))

-- a field's registers lie on a side where its destination does, and its source with it
pub field_on : (holds : Bool) (source destination side : Side)
    → (same_side destination side && (holds && same_side source destination)) ≡
    (holds && (same_side source side && same_side destination side))
field_on true A A A = refl
field_on true A A B = refl
field_on true A B A = refl
field_on true A B B = refl
field_on true B A A = refl
field_on true B A B = refl
field_on true B B A = refl
field_on true B B B = refl
field_on false source A A = refl
field_on false source A B = refl
field_on false source B A = refl
field_on false source B B = refl

-- an access above B14 or B15 by a constant lies on side B
by_parts : (on number form range : Bool)
    → (on && number && form && range) ≡ (on && number && form && range && (on && true && true))
by_parts true true true true = refl
by_parts true true true false = refl
by_parts true true false range = refl
by_parts true false form range = refl
by_parts false number form range = refl

pub far_on : (range : Range) (base : Reg) (form : AddressForm) (offset : Offset)
    → (is_far_access base form offset && far_offset_in_range range offset) ≡
    (is_far_access base form offset && far_offset_in_range range offset
    && (same_side base.side B && offset_on B offset && true))
far_on range base form (ByConstant k) =
    by_parts (same_side base.side B) (base.number == 14 || base.number == 15) (is_plus form) (in_range range k)
far_on range base form (ByRegister offset) = refl

pub never : (x y : Bool) → (x && (y && false)) ≡ false
never true true = refl
never true false = refl
never false y = refl

either_bit : (a b : ℕ) → a < 2 → b < 2 → (max a b == 1) ≡ ((a == 1) || (b == 1))
either_bit a b low below = grind (arith, nat_tests)

-- the bits of one more form
pub takers_more : (forms : List Form) (i : ℕ) (d : Form) (operands : Operands) (units more : ℕ) (unit : FunctionalUnit)
    → i < length forms
    → (bit_at units (index_of unit) == 1) ≡ list_any (λ form. takes_by form operands unit) (take i forms)
    → (bit_at more (index_of unit) == 1) ≡ takes_by (get_or forms i d) operands unit
    → (bit_at (bit_or units more) (index_of unit) == 1) ≡ list_any (λ form. takes_by form operands unit)
    (take (i + 1) forms)
takers_more forms i d operands units more unit within before one =
    rw (bit_at_or units more (index_of unit))
    (either_bit (bit_at units (index_of unit)) (bit_at more (index_of unit)) (bit_at-lt units (index_of unit))
    (bit_at-lt more (index_of unit))
    ∙ rw (before, one) (sym (list_any_more (λ form. takes_by form operands unit) forms i d within)))
