-- Instructions that are the same always depend on each other.
use Rattle.std.proofs.Common.{arith, ◌≡◌, ℕ, ◌+◌, ◌-◌, ◌*◌, ◌<◌, pos, ◌-ℤ◌, Bool, true, false, List, [], ◌∷◌, ◌++◌}
use Rattle.std.proofs.Common.{Option, Some, None, refl, sym, ap, subst, ◌∙◌, inr}
use Rattle.std.specs.Prelude.{Contains, if◌then◌else◌, not, ◌&&◌, ◌||◌, nat_le, unsigned_abs, slice_get}
use Rattle.c62_op.specs.declared.register.Cond.{Cond as Condition}
use Rattle.c62_op.specs.declared.operands.Offset.TheVariants.{Constant as ByConstant}
use Rattle.c62_op.specs.Meaning.{size_of}
use Rattle.c62_op.specs.Takes.{same_reg}
use Rattle.c62_rules.specs.Dependence.{exclusive_by, are_exclusive, condition_in, is_written_by, Range, range_of}
use Rattle.c62_rules.specs.Dependence.{range_in, are_apart, begin_of, disjoint_by, are_disjoint}
use Rattle.std.proofs.lemmas.Int.{ints}
use Rattle.std.proofs.lemmas.Bool.Decides.{nat_tests}
use Rattle.c62_op.specs.declared.register.Reg.{Reg}
use Rattle.c62_op.specs.declared.operands.Op.{Op}
use Rattle.c62_op.specs.declared.operands.Op.TheVariants.{B, Stb, Sth, Stw}
use Rattle.c62_op.specs.declared.operands.AddressForm.{AddressForm}
use Rattle.c62_op.specs.declared.operands.Offset.{Offset}
use Rattle.c62_op.specs.declared.operands.Operands.{Operands}
use Rattle.c62_op.specs.declared.operands.Operands.TheVariants.{Three, ConstantFirst, ConstantSecond, Two, Field}
use Rattle.c62_op.specs.declared.operands.Operands.TheVariants.{Constant, Access, Block, Register}
use Rattle.c62_op.specs.Takes.{has_kind}
use Rattle.c62_op.specs.Shape.{is_branch, is_load, is_store, delay_of, changes_base, writes_of}
use Rattle.c62_op.proofs.TakenTests.{taken_kind}
use Rattle.c62_insn.specs.declared.insn.Insn.{Insn}
use Rattle.c62_insn.specs.Insn.{IsSameInsn, op_of, operands_of, cond_of, register_writes}
use Rattle.c62_rules.specs.Dependence.{IsBound}
use Rattle.c62_rules.specs.Dependence.IsBound.{WriteAfterWrite, AfterStore}
use Rattle.c62_insn.proofs.InsnLemmas.{has_unit}
use Rattle.c62_rules.specs.Twins.{AreInOrder}

to_block : (op : Op) (k : ℕ) → has_kind op (Block k) ≡ true → is_branch op ≡ true
to_block B k h = refl
to_block _ k h = absurd cc

to_register : (op : Op) (r : Reg) → has_kind op (Register r) ≡ true → is_branch op ≡ true
to_register B r h = refl
to_register _ r h = absurd cc

accesses : (op : Op) (reg base : Reg) (form : AddressForm) (offset : Offset)
    → has_kind op (Access reg base form offset) ≡ true → is_load op ≡ false → is_store op ≡ true
accesses Stb reg base form offset h l = refl
accesses Sth reg base form offset h l = refl
accesses Stw reg base form offset h l = refl
accesses _ reg base form offset h l = absurd cc

no_load : (changes loads : Bool) (w v : Reg × ℕ)
    → (if changes then w ∷ [] else []) ++ (if loads then v ∷ [] else []) ≡ [] → loads ≡ false
no_load changes false w v h = refl
no_load true true w v h = absurd cc
no_load false true w v h = absurd cc

by_operands : (op : Op) (operands : Operands) → has_kind op operands ≡ true → writes_of op operands ≡ []
    → is_branch op ≡ false → is_store op ≡ true
by_operands op (Three a b d) kind none straight = absurd cc
by_operands op (ConstantFirst k a d) kind none straight = absurd cc
by_operands op (ConstantSecond a k d) kind none straight = absurd cc
by_operands op (Two a d) kind none straight = absurd cc
by_operands op (Field a k m d) kind none straight = absurd cc
by_operands op (Constant k d) kind none straight = absurd cc
by_operands op (Access reg base form offset) kind none straight =
    accesses op reg base form offset kind (no_load (changes_base form) (is_load op) (base, 0) (reg, delay_of op) none)
by_operands op (Block k) kind none straight = (let e = to_block op k kind in absurd cc)
by_operands op (Register r) kind none straight = (let e = to_register op r kind in absurd cc)

-- what writes no register and is no branch, is a store
stores : (insn : Insn) → register_writes insn ≡ [] → is_branch (op_of insn) ≡ false → is_store (op_of insn) ≡ true
stores insn none straight =
    let unit = has_unit insn in
    by_operands (op_of insn) (operands_of insn) (taken_kind (op_of insn) (operands_of insn) unit.0 unit.1) none straight

-- ---- no instruction excludes its twin, or accesses other bytes

never_both : (a n : Bool) → (a && (if n then not n else n)) ≡ false
never_both true true = refl
never_both true false = refl
never_both false n = refl

not_exclusive : (block : List Insn) (i j : ℕ) (cond : Option Condition) → exclusive_by block i j cond cond ≡ false
not_exclusive block i j None = refl
not_exclusive block i j (Some cond) = ap (λ (b : Bool). b && not (is_written_by block i (j - i) cond.reg))
    (never_both (same_reg cond.reg cond.reg) cond.negated)

not_past : (begin size : ℕ) → 0 < size → nat_le (begin + size) begin ≡ false
not_past begin size some = grind (arith, nat_tests)

not_apart : (range : Range) → 0 < range.size → are_apart range range ≡ false
not_apart range some =
    ap (λ (b : Bool). same_reg range.base range.base && (b || b)) (not_past range.begin range.size some)
    ∙ and_never (same_reg range.base range.base)
  where
    and_never : (a : Bool) → (a && false) ≡ false
    and_never true = refl
    and_never false = refl

stored_bytes : (op : Op) → is_store op ≡ true → 0 < size_of op
stored_bytes Stb h = omega arith
stored_bytes Sth h = omega arith
stored_bytes Stw h = omega arith
stored_bytes _ h = absurd cc

not_disjoint : (block : List Insn) (i j : ℕ) (op : Op) (operands : Operands) → is_store op ≡ true
    → disjoint_by block i j (range_of op operands) (range_of op operands) ≡ false
not_disjoint block i j op (Access reg base form (ByConstant k)) store =
    ap (λ (b : Bool). b && not (is_written_by block i (j - i) base))
    (not_apart (record { base = base; begin = begin_of form (unsigned_abs k * size_of op); size = size_of op })
    (stored_bytes op store))
not_disjoint block i j op _ store = refl

module _ (block : List Insn) (i j : ℕ) (p q : Insn) (at_p : slice_get block i ≡ Some p)
    (at_q : slice_get block j ≡ Some q) (same : IsSameInsn p q)
    (straight : is_branch (op_of p) ≡ false) where
  both_run : are_exclusive block i j ≡ false
  both_run =
      ap (λ (o : Option Insn). exclusive_by block i j (condition_in o) (condition_in (slice_get block j))) at_p
      ∙ (ap (λ (o : Option Insn). exclusive_by block i j (cond_of p) (condition_in o)) at_q
      ∙ (ap (λ (c : Option Condition). exclusive_by block i j (cond_of p) c) (sym same.cond)
      ∙ not_exclusive block i j (cond_of p)))

  meet : is_store (op_of p) ≡ true → are_disjoint block i j ≡ false
  meet store =
      ap (λ (o : Option Insn). disjoint_by block i j (range_in o) (range_in (slice_get block j))) at_p
      ∙ (ap (λ (o : Option Insn). disjoint_by block i j (range_of (op_of p) (operands_of p)) (range_in o)) at_q
      ∙ (ap (λ (op : Op). disjoint_by block i j (range_of (op_of p) (operands_of p)) (range_of op (operands_of q)))
      (sym same.op)
      ∙ (ap (λ (os : Operands). disjoint_by block i j (range_of (op_of p) (operands_of p)) (range_of (op_of p) os))
      (sym same.operands)
      ∙ not_disjoint block i j (op_of p) (operands_of p) store)))

  same_writes : register_writes q ≡ register_writes p
  same_writes = ap (λ (op : Op). writes_of op (operands_of q)) (sym same.op)
      ∙ ap (λ (operands : Operands). writes_of (op_of p) operands) (sym same.operands)

  by_writes : (writes : List (Reg × ℕ)) → register_writes p ≡ writes → IsBound block i j p q (pos 1)
  by_writes [] e =
      let store = stores p e straight in
      AfterStore store (inr (subst (λ (op : Op). is_store op ≡ true) same.op store)) (meet store) refl
  by_writes ((reg, delay) ∷ writes) e =
      let first : Contains ((reg, delay) ∷ writes) (reg, delay) = (0, omega arith, refl) in
      let one : Contains (register_writes p) (reg, delay) = subst (λ (ws : List (Reg × ℕ)). Contains ws (reg, delay))
      (sym e) first in
      let other : Contains (register_writes q) (reg, delay) = subst (λ (ws : List (Reg × ℕ)). Contains ws (reg, delay))
      (sym same_writes) one in
      let bound : pos 1 ≡ pos (delay + 1) -ℤ pos delay = omega (arith, ints) in
      WriteAfterWrite reg delay delay one other both_run bound

pub are_in_order : (block : List Insn) → AreInOrder block
are_in_order block i j p q at_p at_q lt same straight = record {
  first = p;
  second = q;
  is_first = at_p;
  is_second = at_q;
  before = lt;
  applies = by_writes block i j p q at_p at_q same straight (register_writes p) refl;
}
