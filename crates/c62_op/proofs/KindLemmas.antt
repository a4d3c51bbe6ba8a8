-- What an operation's kind decides, and operations that are one with their sources exchanged.
use Rattle.std.proofs.Common.{arith, refl, ◌≡◌, ℕ, ◌+◌, ◌*◌, ◌%◌, ◌^◌, ◌<◌, ap, sym, ℤ, pos, ◌*ℤ◌, Bool, true, false}
use Rattle.std.proofs.Common.{[], ◌∷◌}
use Rattle.std.specs.Prelude.{All, if◌then◌else◌}
use Rattle.std.proofs.lemmas.Bool.{both_ways, cond_both, eq-eqb}
use Rattle.std.proofs.lemmas.Int.{ints}
use Rattle.std.proofs.lemmas.List.Elements.{All-nil, All-cons, All-append}
use Rattle.c62_op.specs.declared.register.Side.{Side}
use Rattle.c62_op.specs.declared.register.Reg.{Reg}
use Rattle.c62_op.specs.declared.register.Unit.{Unit as FunctionalUnit}
use Rattle.c62_op.specs.declared.operands.Op.{Op}
use Rattle.c62_op.specs.declared.operands.Op.TheVariants.{Add}
use Rattle.c62_op.specs.declared.operands.Operands.{Operands}
use Rattle.c62_op.specs.declared.operands.Operands.TheVariants.{Three, ConstantFirst, ConstantSecond, Two, Field}
use Rattle.c62_op.specs.declared.operands.Operands.TheVariants.{Constant, Access, Block, Register}
use Rattle.c62_op.specs.Takes.{takes}
use Rattle.c62_op.specs.Shape.{delay_of, is_load, changes_base, writes_of}
use Rattle.c62_op.specs.Word.{word, sg_half, lo, hi, sum, difference, doubled}
use Rattle.c62_op.specs.Laws.{HasDelayOfKind, MovesBase, Mirrors, TakesBack}
use Rattle.c62_op.proofs.SideLemmas.{takes_on_side}

pub delay-of-kind : (op : Op) → HasDelayOfKind op
delay-of-kind Add = record { multiply = refl; load = refl; branch = refl; other = refl }
delay-of-kind _ = record { multiply = refl; load = refl; branch = refl; other = refl }

-- ---- writes

IsOn : Side → Reg × ℕ → Type 0
IsOn side write = write.0.side ≡ side

one-write : (op : Op) (operands : Operands) (unit : FunctionalUnit) (d : Reg) (delay : ℕ) → unit.side ≡ d.side
    → All (IsOn unit.side) ((d, delay) ∷ [])
unfolding IsOn
one-write op operands unit d delay e = All-cons (IsOn unit.side) (d, delay) [] (sym e) (All-nil (IsOn unit.side))

own-writes : (op : Op) (operands : Operands) (unit : FunctionalUnit) → takes op operands unit ≡ true
    → is_load op ≡ false → All (IsOn unit.side) (writes_of op operands)
own-writes op (Three a b d) unit h unloaded = one-write op (Three a b d) unit d (delay_of op)
    (takes_on_side op (Three a b d) unit d.side refl h)
own-writes op (ConstantFirst k a d) unit h unloaded = one-write op (ConstantFirst k a d) unit d (delay_of op)
    (takes_on_side op (ConstantFirst k a d) unit d.side refl h)
own-writes op (ConstantSecond a k d) unit h unloaded = one-write op (ConstantSecond a k d) unit d (delay_of op)
    (takes_on_side op (ConstantSecond a k d) unit d.side refl h)
own-writes op (Two a d) unit h unloaded = one-write op (Two a d) unit d (delay_of op)
    (takes_on_side op (Two a d) unit d.side refl h)
own-writes op (Field a k m d) unit h unloaded = one-write op (Field a k m d) unit d (delay_of op)
    (takes_on_side op (Field a k m d) unit d.side refl h)
own-writes op (Constant k d) unit h unloaded = one-write op (Constant k d) unit d (delay_of op)
    (takes_on_side op (Constant k d) unit d.side refl h)
own-writes op (Access reg base form offset) unit h unloaded =
    All-append (IsOn unit.side) _ _
    (cond_both (changes_base form) ((base, 0) ∷ []) [] (All (IsOn unit.side))
    (λ _. one-write op (Access reg base form offset) unit base 0
    (takes_on_side op (Access reg base form offset) unit base.side refl h)) (λ _. All-nil (IsOn unit.side)))
    (cond_both (is_load op) ((reg, delay_of op) ∷ []) [] (All (IsOn unit.side))
    (λ yes. absurd (both_ways (is_load op) unloaded yes)) (λ _. All-nil (IsOn unit.side)))
own-writes op (Block number) unit h unloaded = All-nil (IsOn unit.side)
own-writes op (Register target) unit h unloaded = All-nil (IsOn unit.side)

pub writes-own : (op : Op) (operands : Operands) (unit : FunctionalUnit) → takes op operands unit ≡ true
    → is_load op ≡ false
    → All (λ (write : Reg × ℕ). write.0.side ≡ unit.side) (writes_of op operands)
unfolding IsOn
writes-own op operands unit h unloaded = own-writes op operands unit h unloaded

-- ---- bases

up-and-down : (base distance : ℕ) → base < 2 ^ 32 → distance < 2 ^ 32 → difference (sum base distance) distance ≡ base
up-and-down base distance low few = omega arith

down-and-up : (base distance : ℕ) → base < 2 ^ 32 → distance < 2 ^ 32 → sum (difference base distance) distance ≡ base
down-and-up base distance low few = omega arith

pub moves-base : (base distance : ℕ) → base < 2 ^ 32 → distance < 2 ^ 32 → MovesBase base distance
moves-base base distance low few = record {
  post_increment = refl;
  post_decrement = refl;
  pre_increment = refl;
  pre_decrement = refl;
  back = up-and-down base distance low few;
  forth = down-and-up base distance low few;
}

-- ---- sources exchanged

times-comm : (y z : ℤ) → y *ℤ z ≡ z *ℤ y
times-comm y z = omega (arith, ints)

pub mirrored : (a b : ℕ) → Mirrors a b
mirrored a b = record {
  signed = refl;
  unsigned = refl;
  itself = ap (λ (t : Bool). if t then 1 else 0) (eq-eqb a a refl);
  halves = ap word (times-comm (sg_half (hi a)) (sg_half (lo b)));
  signs = ap word (times-comm (pos (lo a)) (sg_half (lo b)));
  saturated_halves = ap doubled (times-comm (sg_half (hi a)) (sg_half (lo b)));
  unsigned_halves = omega arith;
  signs_of_high = ap word (times-comm (pos (hi a)) (sg_half (hi b)));
  unsigned_high = ap word (times-comm (pos (hi a)) (sg_half (lo b)));
  signed_high = ap word (times-comm (sg_half (hi a)) (pos (lo b)));
}

-- ---- sums for addresses, taken back

back_by : (base offset : ℕ) → base < 2 ^ 32 → difference ((base + offset) % 2 ^ 32) (offset % 2 ^ 32) ≡ base
back_by base offset low = omega arith

pub taken_back : (base offset : ℕ) → base < 2 ^ 32 → offset < 2 ^ 32 → TakesBack base offset
taken_back base offset low few = record {
  bytes = up-and-down base offset low few;
  halves = back_by base (offset * 2) low;
  words = back_by base (offset * 4) low;
}
