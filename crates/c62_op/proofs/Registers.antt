-- The tests of registers and units tell equality.
use Rattle.std.proofs.Common.{arith, ◌≡◌, ℕ, ◌+◌, ◌<◌, true, refl, ap, ◌∙◌, subst}
use Rattle.std.specs.Prelude.{◌==◌, ◌&&◌}
use Rattle.std.proofs.Math.Bridge.{le_prop}
use Rattle.std.proofs.lemmas.Bool.{and_parts}
use Rattle.std.proofs.lemmas.Bool.Decides.{nat_tests}
use Rattle.c62_op.specs.declared.register.Reg.{Reg}
use Rattle.c62_op.specs.declared.register.Side.{Side}
use Rattle.c62_op.specs.declared.register.Side.TheVariants.{A, B}
use Rattle.c62_op.specs.declared.register.Letter.{Letter}
use Rattle.c62_op.specs.declared.register.Letter.TheVariants.{L, S, M, D}
use Rattle.c62_op.specs.declared.register.Unit.{Unit as FunctionalUnit}
use Rattle.c62_op.specs.Register.{first_of, register_index}
use Rattle.c62_op.specs.Takes.{same_reg, same_side, same_letter, same_unit}

pub same_side-is : (a b : Side) → same_side a b ≡ true → a ≡ b
same_side-is A A h = refl
same_side-is A B h = cc
same_side-is B A h = cc
same_side-is B B h = refl

pub same_side-refl : (a : Side) → same_side a a ≡ true
same_side-refl A = refl
same_side-refl B = refl

pub same_letter-is : (a b : Letter) → same_letter a b ≡ true → a ≡ b
same_letter-is L L h = refl
same_letter-is S S h = refl
same_letter-is M M h = refl
same_letter-is D D h = refl
same_letter-is _ _ h = cc

pub same_letter-refl : (a : Letter) → same_letter a a ≡ true
same_letter-refl L = refl
same_letter-refl S = refl
same_letter-refl M = refl
same_letter-refl D = refl

-- a register is its side and its number
reg-is : (a b : Reg) → a.side ≡ b.side → a.number ≡ b.number → a ≡ b
reg-is a b e f = subst SameNumber f by_prop b.in_range ∙ ap (λ (side : Side). made side b.number b.in_range) e
  where
    made : (side : Side) (number : ℕ) → number < 16 → Reg
    made side number h = record { side = side; number = number; in_range = h }

    SameNumber : ℕ → Type 0
    SameNumber n = (h : n < 16) → made a.side a.number a.in_range ≡ made a.side n h

    by_prop : SameNumber a.number
    by_prop h = ap (made a.side a.number) (le_prop a.in_range h)

pub same_reg-is : (a b : Reg) → same_reg a b ≡ true → a ≡ b
same_reg-is a b h =
    let parts = and_parts (same_side a.side b.side) (a.number == b.number) h in
    let number : a.number ≡ b.number = grind (arith, nat_tests) in
    reg-is a b (same_side-is a.side b.side parts.0) number

pub same_reg-refl : (a : Reg) → same_reg a a ≡ true
same_reg-refl a = rw (same_side-refl a.side) (grind (arith, nat_tests))

pub same_unit-is : (a b : FunctionalUnit) → same_unit a b ≡ true → a ≡ b
same_unit-is a b h =
    let parts = and_parts (same_letter a.letter b.letter) (same_side a.side b.side) h in
    let letter : a.letter ≡ b.letter = same_letter-is a.letter b.letter parts.0 in
    let side : a.side ≡ b.side = same_side-is a.side b.side parts.1 in
    ap (λ (l : Letter). record { letter = l; side = a.side }) letter
    ∙ ap (λ (s : Side). record { letter = b.letter; side = s }) side

pub same_unit-refl : (a : FunctionalUnit) → same_unit a a ≡ true
same_unit-refl a = rw (same_letter-refl a.letter, same_side-refl a.side) refl

-- each register has an index of its own
pub same_parts : (s t : Side) (m n : ℕ) → m < 16 → n < 16 → first_of s + m ≡ first_of t + n
    → (same_side s t && (m == n)) ≡ true
same_parts s t m n low below e = grind (arith, nat_tests)

pub same_register : (a b : Reg) → register_index a ≡ register_index b → a ≡ b
same_register a b e = same_reg-is a b (same_parts a.side b.side a.number b.number a.in_range b.in_range e)
