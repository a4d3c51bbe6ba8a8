-- What holds of operands that some unit takes.
use Rattle.std.proofs.Common.{◌≡◌, Bool, true, false, not, ◌&&◌, ◌||◌, List, [], ◌∷◌, refl, subst, arith, inl, inr}
use Rattle.std.specs.Prelude.{ℤ, pos, negsuc, int_le}
use Rattle.std.specs.List.{list_all, list_any}
use Rattle.std.proofs.lemmas.Bool.{and_from, and_parts, both_ways, le-leb, leb-true, or_cases, or_from, not_from_true}
use Rattle.c62_op.specs.declared.register.Side.{Side}
use Rattle.c62_op.specs.declared.register.Side.TheVariants.{A, B}
use Rattle.c62_op.specs.declared.register.Reg.{Reg}
use Rattle.c62_op.specs.declared.register.Letter.{Letter}
use Rattle.c62_op.specs.declared.register.Letter.TheVariants.{D}
use Rattle.c62_op.specs.declared.register.Unit.{Unit as FunctionalUnit}
use Rattle.c62_op.specs.declared.operands.Op.{Op}
use Rattle.c62_op.specs.declared.operands.Op.TheVariants.{Add, Sub, Shl, Shr, Shru, Ext, Extu, Set, Clr, Sshl, Ssub}
use Rattle.c62_op.specs.declared.operands.AddressForm.{AddressForm}
use Rattle.c62_op.specs.declared.operands.Offset.{Offset}
use Rattle.c62_op.specs.declared.operands.Offset.TheVariants.{Constant as ByConstant, Register as ByRegister}
use Rattle.c62_op.specs.declared.operands.Operands.{Operands}
use Rattle.c62_op.specs.declared.operands.Operands.TheVariants.{Three, ConstantFirst, ConstantSecond, Two, Field}
use Rattle.c62_op.specs.declared.operands.Operands.TheVariants.{Constant, Access, Block, Register}
use Rattle.c62_op.specs.declared.form.Reach.{Reach}
use Rattle.c62_op.specs.declared.form.Reach.TheVariants.{Own, Crossing}
use Rattle.c62_op.specs.declared.form.Range.{Range}
use Rattle.c62_op.specs.declared.form.Pattern.{Pattern}
use Rattle.c62_op.specs.declared.form.Pattern.TheVariants.{TwoSources, ConstantSource, SourceConstant, OneSource}
use Rattle.c62_op.specs.declared.form.Pattern.TheVariants.{SourceField, ConstantAlone, Address, FarAddress, ToBlock}
use Rattle.c62_op.specs.declared.form.Pattern.TheVariants.{ToRegister}
use Rattle.c62_op.specs.declared.form.Form.{Form}
use Rattle.c62_op.specs.Table.{forms_of}
use Rattle.c62_op.specs.Takes.{same_side, same_letter, may_lie, in_range, is_far_access, holds_constants, registers_fit}
use Rattle.c62_op.specs.Takes.{takes}
use Rattle.c62_op.specs.Shape.{crosses_to}
use Rattle.c62_op.proofs.Registers.{same_letter-is}

-- ---- tests of forms

abbrev pub is_own : Reach → Bool
is_own Own = true
is_own Crossing = false

abbrev pub is_add : Op → Bool
is_add Add = true
is_add _ = false

-- the operations with a form whose first source may cross before a register
abbrev pub lets_first_cross : Op → Bool
lets_first_cross Sub = true
lets_first_cross Shl = true
lets_first_cross Shr = true
lets_first_cross Shru = true
lets_first_cross Ext = true
lets_first_cross Extu = true
lets_first_cross Set = true
lets_first_cross Clr = true
lets_first_cross Sshl = true
lets_first_cross Ssub = true
lets_first_cross _ = false

-- from -32768 to 65535
abbrev pub is_narrow : ℤ → Bool
is_narrow k = int_le (negsuc 32767) k && int_le k (pos 65535)

abbrev is_within : Range → Bool
is_within range = int_le (negsuc 32767) range.low && int_le range.high (pos 65535)

-- what each form keeps: on .D nothing crosses, and only ADD has a constant first
abbrev keeps : Op → Letter → Pattern → Bool
keeps op letter (TwoSources first second) = (is_own first || lets_first_cross op) &&
    (not (same_letter letter D) || is_own first && is_own second)
keeps op letter (ConstantSource range reach) = is_within range &&
    (not (same_letter letter D) || is_own reach && is_add op)
keeps op letter (SourceConstant reach range) = is_within range && (not (same_letter letter D) || is_own reach)
keeps op letter (OneSource reach) = not (same_letter letter D) || is_own reach
keeps op letter (SourceField range) = is_within range
keeps op letter (ConstantAlone range) = is_within range
keeps op letter (Address range) = same_letter letter D && is_within range
keeps op letter (FarAddress range) = same_letter letter D && is_within range
keeps op letter ToBlock = true
keeps op letter (ToRegister reach) = not (same_letter letter D)

all_keep : (op : Op) → list_all (λ form. keeps op form.letter form.pattern) (forms_of op) ≡ true
all_keep Add = refl
all_keep _ = refl

-- ---- the form that takes the operands

-- the form's pattern, and what all forms of the operation keep
pub record IsTaken (keep : Letter → Pattern → Bool) (operands : Operands) (unit : FunctionalUnit) : Type 0 where
  pub pattern : Pattern
  pub holds : holds_constants pattern operands ≡ true
  pub lies : registers_fit pattern unit.side operands ≡ true
  pub kept : keep unit.letter pattern ≡ true

pub one_form : (keep : Letter → Pattern → Bool) (operands : Operands) (unit : FunctionalUnit) (forms : List Form)
    → list_any (λ form. holds_constants form.pattern operands && same_letter form.letter unit.letter && registers_fit
    form.pattern unit.side operands) forms ≡ true
    → list_all (λ form. keep form.letter form.pattern) forms ≡ true → IsTaken keep operands unit
one_form keep operands unit [] any all = absurd cc
one_form keep operands unit (form ∷ forms) any all =
    let kept = and_parts (keep form.letter form.pattern) (list_all (λ (f : Form). keep f.letter f.pattern) forms) all in
    elim (or_cases (holds_constants form.pattern operands && same_letter form.letter unit.letter && registers_fit
    form.pattern unit.side operands) _ any) [
      | inl here ↦
          let first = and_parts (holds_constants form.pattern operands && same_letter form.letter unit.letter)
          (registers_fit form.pattern unit.side operands) here in
          let both = and_parts (holds_constants form.pattern operands) (same_letter form.letter unit.letter) first.0 in
          record {
            pattern = form.pattern;
            holds = both.0;
            lies = first.1;
            kept = subst (λ (letter : Letter). keep letter form.pattern ≡ true)
                (same_letter-is form.letter unit.letter both.1) kept.0;
          }
      | inr later ↦ one_form keep operands unit forms later kept.1
    ]

taken : (op : Op) (operands : Operands) (unit : FunctionalUnit) → takes op operands unit ≡ true
    → IsTaken (keeps op) operands unit
taken op operands unit any = one_form (keeps op) operands unit (forms_of op) any (all_keep op)

-- ---- where registers lie

one_side : (a d s : Side) → same_side a s ≡ true → same_side d s ≡ true → same_side a d ≡ true
one_side A A s h e = refl
one_side B B s h e = refl
one_side A B A h e = cc
one_side A B B h e = cc
one_side B A A h e = cc
one_side B A B h e = cc

own_first : (op : Op) (pattern : Pattern) (unit : FunctionalUnit) (a b d : Reg)
    → holds_constants pattern (Three a b d) ≡ true → registers_fit pattern unit.side (Three a b d) ≡ true
    → keeps op unit.letter pattern ≡ true → lets_first_cross op ≡ false
    → same_side a.side d.side ≡ true
own_first op (TwoSources Own second) unit a b d holds lies kept fixed =
    let parts = and_parts (same_side a.side unit.side && may_lie second unit.side b) (same_side d.side unit.side) lies
    in
    one_side a.side d.side unit.side (and_parts (same_side a.side unit.side) (may_lie second unit.side b) parts.0).0
    parts.1
own_first op (TwoSources Crossing second) unit a b d holds lies kept fixed =
    absurd (both_ways (lets_first_cross op) fixed (and_parts (lets_first_cross op) _ kept).0)
own_first op _ unit a b d holds lies kept fixed = absurd cc

-- the first source of three registers lies in the destination's file, but with SUB, SSUB, shifts and fields of bits
pub first_in_file : (op : Op) (unit : FunctionalUnit) (a b d : Reg) → takes op (Three a b d) unit ≡ true
    → lets_first_cross op ≡ false → same_side a.side d.side ≡ true
first_in_file op unit a b d taking fixed =
    let t = taken op (Three a b d) unit taking in own_first op t.pattern unit a b d t.holds t.lies t.kept fixed

at_d : (letter : Letter) (x : Bool) → same_letter letter D ≡ true → (not (same_letter letter D) || x) ≡ true → x ≡ true
at_d letter x is_d or = rw is_d at or

own_reach : (reach : Reach) (side : Side) (reg : Reg) → is_own reach ≡ true → may_lie reach side reg ≡ true
    → not (same_side reg.side side) ≡ false
own_reach Own side reg own lies = not_from_true (same_side reg.side side) lies
own_reach Crossing side reg own lies = absurd cc

none_crosses : (op : Op) (pattern : Pattern) (unit : FunctionalUnit) (operands : Operands)
    → holds_constants pattern operands ≡ true → registers_fit pattern unit.side operands ≡ true
    → keeps op unit.letter pattern ≡ true → same_letter unit.letter D ≡ true
    → crosses_to unit.side operands ≡ false
none_crosses op (TwoSources first second) unit (Three a b d) holds lies kept is_d =
    let owns = at_d unit.letter (is_own first && is_own second) is_d
    (and_parts (is_own first || lets_first_cross op) _ kept).1 in
    let own = and_parts (is_own first) (is_own second) owns in
    let both = and_parts (may_lie first unit.side a) (may_lie second unit.side b)
    (and_parts (may_lie first unit.side a && may_lie second unit.side b) (same_side d.side unit.side) lies).0 in
    or_from _ _ (own_reach first unit.side a own.0 both.0) (own_reach second unit.side b own.1 both.1)
none_crosses op (ConstantSource range reach) unit (ConstantFirst k a d) holds lies kept is_d =
    let owns = at_d unit.letter (is_own reach && is_add op) is_d (and_parts (is_within range) _ kept).1 in
    own_reach reach unit.side a (and_parts (is_own reach) (is_add op) owns).0
    (and_parts (may_lie reach unit.side a) (same_side d.side unit.side) lies).0
none_crosses op (SourceConstant reach range) unit (ConstantSecond a k d) holds lies kept is_d =
    own_reach reach unit.side a (at_d unit.letter (is_own reach) is_d (and_parts (is_within range) _ kept).1)
    (and_parts (may_lie reach unit.side a) (same_side d.side unit.side) lies).0
none_crosses op (OneSource reach) unit (Two a d) holds lies kept is_d =
    own_reach reach unit.side a (at_d unit.letter (is_own reach) is_d kept)
    (and_parts (may_lie reach unit.side a) (same_side d.side unit.side) lies).0
none_crosses op (SourceField range) unit (Field a k m d) holds lies kept is_d = not_from_true _
    (and_parts (same_side a.side unit.side) (same_side d.side unit.side) lies).0
none_crosses op (ConstantAlone range) unit (Constant k d) holds lies kept is_d = refl
none_crosses op (Address range) unit (Access reg base form offset) holds lies kept is_d = refl
none_crosses op ToBlock unit (Block number) holds lies kept is_d = refl
none_crosses op (FarAddress range) unit (Access reg base form offset) holds lies kept is_d = refl
none_crosses op (ToRegister reach) unit (Register target) holds lies kept is_d =
    absurd (let e : not true ≡ true = rw is_d at kept in cc)
none_crosses op _ unit _ holds lies kept is_d = absurd cc

-- nothing crosses to .D
pub uncrossed_on_d : (op : Op) (operands : Operands) (unit : FunctionalUnit) → takes op operands unit ≡ true
    → same_letter unit.letter D ≡ true → crosses_to unit.side operands ≡ false
uncrossed_on_d op operands unit taking is_d =
    let t = taken op operands unit taking in none_crosses op t.pattern unit operands t.holds t.lies t.kept is_d

add_alone : (op : Op) (pattern : Pattern) (letter : Letter) (k : ℤ) (a d : Reg)
    → holds_constants pattern (ConstantFirst k a d) ≡ true → keeps op letter pattern ≡ true
    → same_letter letter D ≡ true → is_add op ≡ true
add_alone op (ConstantSource range reach) letter k a d holds kept is_d =
    (and_parts (is_own reach) (is_add op)
    (at_d letter (is_own reach && is_add op) is_d (and_parts (is_within range) _ kept).1)).1
add_alone op _ letter k a d holds kept is_d = absurd cc

-- on .D only ADD has a constant first
pub constant_on_d : (op : Op) (unit : FunctionalUnit) (k : ℤ) (a d : Reg) → takes op (ConstantFirst k a d) unit ≡ true
    → same_letter unit.letter D ≡ true → is_add op ≡ true
constant_on_d op unit k a d taking is_d =
    let t = taken op (ConstantFirst k a d) unit taking in add_alone op t.pattern unit.letter k a d t.holds t.kept is_d

access_letter : (op : Op) (pattern : Pattern) (letter : Letter) (reg base : Reg) (form : AddressForm) (offset : Offset)
    → holds_constants pattern (Access reg base form offset) ≡ true → keeps op letter pattern ≡ true
    → same_letter letter D ≡ true
access_letter op (Address range) letter reg base form offset holds kept =
    (and_parts (same_letter letter D) (is_within range) kept).0
access_letter op (FarAddress range) letter reg base form offset holds kept =
    (and_parts (same_letter letter D) (is_within range) kept).0
access_letter op _ letter reg base form offset holds kept = absurd cc

-- loads and stores stand on .D
pub access_on_d : (op : Op) (unit : FunctionalUnit) (reg base : Reg) (form : AddressForm) (offset : Offset)
    → takes op (Access reg base form offset) unit ≡ true → same_letter unit.letter D ≡ true
access_on_d op unit reg base form offset taking =
    let t = taken op (Access reg base form offset) unit taking in access_letter op t.pattern unit.letter reg base form
    offset t.holds t.kept

-- ---- constants

int_le-trans : (a b c : ℤ) → int_le a b ≡ true → int_le b c ≡ true → int_le a c ≡ true
int_le-trans (pos a) (pos b) (pos c) p q = le-leb a c (omega (arith, leb-true a b p, leb-true b c q))
int_le-trans (negsuc a) (negsuc b) (negsuc c) p q = le-leb c a (omega (arith, leb-true b a p, leb-true c b q))
int_le-trans (negsuc a) b (pos c) p q = refl
int_le-trans (pos a) (pos b) (negsuc c) p q = absurd cc
int_le-trans (pos a) (negsuc b) c p q = absurd cc
int_le-trans (negsuc a) (pos b) (negsuc c) p q = absurd cc

narrow_in : (range : Range) (k : ℤ) → is_within range ≡ true → in_range range k ≡ true → is_narrow k ≡ true
narrow_in range k within inside =
    let ends = and_parts (int_le (negsuc 32767) range.low) (int_le range.high (pos 65535)) within in
    let here = and_parts (int_le range.low k) (int_le k range.high) inside in
    and_from (int_le (negsuc 32767) k) (int_le k (pos 65535)) (int_le-trans (negsuc 32767) range.low k ends.0 here.0)
    (int_le-trans k range.high (pos 65535) here.1 ends.1)

-- the constants among operands
abbrev pub constants_of : Operands → List ℤ
constants_of (ConstantFirst k a d) = k ∷ []
constants_of (ConstantSecond a k d) = k ∷ []
constants_of (Field a k m d) = k ∷ m ∷ []
constants_of (Constant k d) = k ∷ []
constants_of (Access reg base form (ByConstant k)) = k ∷ []
constants_of _ = []

narrow_one : (range : Range) (k : ℤ) → is_within range ≡ true → in_range range k ≡ true
    → list_all is_narrow (k ∷ []) ≡ true
narrow_one range k within inside = and_from (is_narrow k) true (narrow_in range k within inside) refl

all_narrow : (op : Op) (pattern : Pattern) (letter : Letter) (operands : Operands)
    → holds_constants pattern operands ≡ true → keeps op letter pattern ≡ true
    → list_all is_narrow (constants_of operands) ≡ true
all_narrow op (ConstantSource range reach) letter (ConstantFirst k a d) holds kept = narrow_one range k
    (and_parts (is_within range) _ kept).0 holds
all_narrow op (SourceConstant reach range) letter (ConstantSecond a k d) holds kept = narrow_one range k
    (and_parts (is_within range) _ kept).0 holds
all_narrow op (SourceField range) letter (Field a k m d) holds kept =
    let both = and_parts (in_range range k) (in_range range m) holds in
    and_from (is_narrow k) (list_all is_narrow (m ∷ [])) (narrow_in range k kept both.0)
    (narrow_one range m kept both.1)
all_narrow op (ConstantAlone range) letter (Constant k d) holds kept = narrow_one range k kept holds
all_narrow op (Address range) letter (Access reg base form (ByConstant k)) holds kept = narrow_one range k
    (and_parts (same_letter letter D) (is_within range) kept).1 holds
all_narrow op (FarAddress range) letter (Access reg base form (ByConstant k)) holds kept = narrow_one range k
    (and_parts (same_letter letter D) (is_within range) kept).1
    (and_parts (is_far_access base form (ByConstant k)) (in_range range k) holds).1
all_narrow op pattern letter (Access reg base form (ByRegister offset)) holds kept = refl
all_narrow op pattern letter (Three a b d) holds kept = refl
all_narrow op pattern letter (Two a d) holds kept = refl
all_narrow op pattern letter (Block number) holds kept = refl
all_narrow op pattern letter (Register target) holds kept = refl
all_narrow op _ letter _ holds kept = absurd cc

-- the constants of an instruction lie between -32768 and 65535
pub narrow_constants : (op : Op) (operands : Operands) (unit : FunctionalUnit) → takes op operands unit ≡ true
    → list_all is_narrow (constants_of operands) ≡ true
narrow_constants op operands unit taking =
    let t = taken op operands unit taking in all_narrow op t.pattern unit.letter operands t.holds t.kept
