-- What holds of every instruction: the units that take it, its reads and its writes.
use Rattle.std.proofs.Common.{◌≡◌, ◌≢◌, ℕ, zero, suc, ◌≤◌, arith, Bool, true, false, refl, List, [], ◌∷◌, ◌++◌, length}
use Rattle.std.proofs.Common.{Option, Some, None, ◌⊎◌}
use Rattle.std.specs.Prelude.{if◌then◌else◌, slice_get, Contains, All, IsTrue}
use Rattle.std.proofs.lemmas.Bool.{and_parts, both_ways, cond_both, or_parts, or_from, not_from_true}
use Rattle.std.proofs.lemmas.List.Elements.{All-nil, All-cons, All-head, All-tail, All-weaker, All-append, All-contains}
use Rattle.std.proofs.lemmas.List.Sums.{count_by-le-length}
use Rattle.c62_op.specs.declared.register.Side.{Side}
use Rattle.c62_op.specs.declared.register.Reg.{Reg}
use Rattle.c62_op.specs.declared.register.Unit.{Unit as FunctionalUnit}
use Rattle.c62_op.specs.declared.operands.Op.{Op}
use Rattle.c62_op.specs.declared.operands.Op.TheVariants.{Ldb, Ldbu, Ldh, Ldhu, Ldw, B as Branch}
use Rattle.c62_op.specs.declared.operands.Offset.{Offset}
use Rattle.c62_op.specs.declared.operands.Offset.TheVariants.{Constant as ByConstant, Register as ByRegister}
use Rattle.c62_op.specs.declared.operands.Operands.{Operands}
use Rattle.c62_op.specs.declared.operands.Operands.TheVariants.{Three, ConstantFirst, ConstantSecond, Two, Field}
use Rattle.c62_op.specs.declared.operands.Operands.TheVariants.{Constant, Access, Block, Register}
use Rattle.c62_insn.specs.declared.insn.Insn.{Insn}
use Rattle.c62_insn.specs.declared.fault.FormFault.TheVariants.{NoUnit, ConstantRange, TwoCrossed, BadSide}
use Rattle.c62_insn.specs.declared.fault.FormFault.TheVariants.{BadCondition}
use Rattle.c62_op.specs.Takes.{takes, same_reg, is_written}
use Rattle.c62_op.specs.declared.set.InstructionSet.TheVariants.{Full}
use Rattle.c62_insn.specs.Fault.{form_fault, bad_condition, constant_out_of_range, two_crossed, has_misplaced}
use Rattle.c62_insn.specs.Fault.{is_other_side, bad_side, no_unit}
use Rattle.c62_op.specs.Shape.{side_of, delay_of, is_load, is_store, reads_destination, changes_base, offset_reads}
use Rattle.c62_op.specs.Shape.{reads_of, writes_of}
use Rattle.c62_insn.specs.Stands.{may_stand}
use Rattle.c62_insn.specs.Insn.{op_of, operands_of, cond_of, unit_of, operand_reads, register_writes, reads_count}
use Rattle.c62_insn.specs.Insn.{greatest_delay}
use Rattle.c62_insn.proofs.FaultLemmas.{faultless, some_unit}
use Rattle.c62_op.proofs.Registers.{same_side-refl}
use Rattle.c62_op.proofs.SideLemmas.{takes_on_side}

-- some unit takes an instruction: the written one, where one is written
pub has_written_unit : (insn : Insn)
    → (u : FunctionalUnit) × (takes (op_of insn) (operands_of insn) u ≡ true)
    × ((unit_of insn ≡ None) ⊎ (unit_of insn ≡ Some u))
has_written_unit insn = some_unit Full insn.op insn.operands insn.unit
    (faultless Full insn.op insn.operands insn.cond insn.unit insn.well_formed).taken

pub has_unit : (insn : Insn) → (u : FunctionalUnit) × (takes (op_of insn) (operands_of insn) u ≡ true)
has_unit insn = let found = has_written_unit insn in (found.0, found.1)

pub no_fault : (a b c d e : Bool) → a ≡ false → b ≡ false → c ≡ false → d ≡ false → e ≡ false
    → (if a then Some BadCondition else if b then Some ConstantRange else if c then Some TwoCrossed else if d then Some
    BadSide else if e then Some NoUnit else None) ≡ None
no_fault a b c d e p q r s t = rw (p, q, r, s, t) refl

pub own_side : (op : Op) (operands : Operands) (u : FunctionalUnit) (side : Option Side) → takes op operands u ≡ true
    → side_of operands ≡ side
    → is_other_side side (Some u) ≡ false
own_side op operands u None h e = refl
own_side op operands u (Some side) h e = rw (takes_on_side op operands u side e h, same_side-refl side) refl

-- an instruction has no fault on any unit that takes it
pub faultless_on : (insn : Insn) (u : FunctionalUnit) → takes (op_of insn) (operands_of insn) u ≡ true
    → form_fault (op_of insn) (operands_of insn) (cond_of insn) (Some u) ≡ None
faultless_on insn u h =
    let f = faultless Full insn.op insn.operands insn.cond insn.unit insn.well_formed in
    let own = or_parts (has_misplaced Full insn.op insn.operands)
    (is_other_side (side_of insn.operands) insn.unit) f.sides
    in
    no_fault (bad_condition insn.cond) (constant_out_of_range Full insn.op insn.operands)
    (two_crossed insn.op insn.operands)
    (bad_side Full insn.op insn.operands (Some u)) (no_unit Full insn.op insn.operands (Some u)) f.condition f.constants
    f.crossing
    (or_from _ _ own.0 (own_side insn.op insn.operands u (side_of insn.operands) h refl)) (not_from_true _ h)

-- nor on any unit on which it may stand
pub faultless_standing : (insn : Insn) (u : FunctionalUnit) → IsTrue (may_stand insn u)
    → form_fault (op_of insn) (operands_of insn) (cond_of insn) (Some u) ≡ None
faultless_standing insn u h = faultless_on insn u
    (and_parts (is_written (unit_of insn) u) (takes (op_of insn) (operands_of insn) u) h).1

-- operands of a branch
abbrev is_target : Operands → Bool
is_target (Block _) = true
is_target (Register _) = true
is_target _ = false

branch_target : (operands : Operands) (u : FunctionalUnit) → takes Branch operands u ≡ true → is_target operands ≡ true
branch_target (Block number) u h = refl
branch_target (Register target) u h = refl
branch_target _ u h = cc

no_branch : (op : Op) (operands : Operands) (u : FunctionalUnit) → takes op operands u ≡ true
    → is_target operands ≡ false → op ≢ Branch
no_branch op operands u h t e = both_ways (is_target operands) t (branch_target operands u (rw e at h))

small_delay : (op : Op) → op ≢ Branch → delay_of op ≤ 4
small_delay Branch h = absurd (h refl)
small_delay _ h = omega arith

load_delay : (op : Op) → is_load op ≡ true → delay_of op ≡ 4
load_delay Ldb h = refl
load_delay Ldbu h = refl
load_delay Ldh h = refl
load_delay Ldhu h = refl
load_delay Ldw h = refl
load_delay _ h = cc

-- a write within four cycles, and within the instruction's delay
abbrev pub IsTimely : Op → Reg × ℕ → Type 0
IsTimely op write = (write.1 ≤ 4) × (write.1 ≤ delay_of op)

timely_result : (op : Op) (d : Reg) → op ≢ Branch → All (IsTimely op) ((d, delay_of op) ∷ [])
timely_result op d h = All-cons (IsTimely op) (d, delay_of op) [] (small_delay op h, omega arith)
    (All-nil (IsTimely op))

timely_base : (op : Op) (base : Reg) → All (IsTimely op) ((base, 0) ∷ [])
timely_base op base = All-cons (IsTimely op) (base, 0) [] (omega arith, omega arith) (All-nil (IsTimely op))

timely_load : (op : Op) (reg : Reg) → is_load op ≡ true → All (IsTimely op) ((reg, delay_of op) ∷ [])
timely_load op reg h = All-cons (IsTimely op) (reg, delay_of op) [] (omega (arith, load_delay op h), omega arith)
    (All-nil (IsTimely op))

timely : (op : Op) (operands : Operands) (u : FunctionalUnit) → takes op operands u ≡ true
    → All (IsTimely op) (writes_of op operands)
timely op (Three a b d) u h = timely_result op d (no_branch op (Three a b d) u h refl)
timely op (ConstantFirst k a d) u h = timely_result op d (no_branch op (ConstantFirst k a d) u h refl)
timely op (ConstantSecond a k d) u h = timely_result op d (no_branch op (ConstantSecond a k d) u h refl)
timely op (Two a d) u h = timely_result op d (no_branch op (Two a d) u h refl)
timely op (Field a k m d) u h = timely_result op d (no_branch op (Field a k m d) u h refl)
timely op (Constant k d) u h = timely_result op d (no_branch op (Constant k d) u h refl)
timely op (Access reg base form offset) u h =
    All-append (IsTimely op) _ _
    (cond_both (changes_base form) ((base, 0) ∷ []) [] (All (IsTimely op)) (λ _. timely_base op base)
    (λ _. All-nil (IsTimely op)))
    (cond_both (is_load op) ((reg, delay_of op) ∷ []) [] (All (IsTimely op)) (timely_load op reg)
    (λ _. All-nil (IsTimely op)))
timely op (Block number) u h = All-nil (IsTimely op)
timely op (Register target) u h = All-nil (IsTimely op)

pub timely_writes : (insn : Insn) → All (IsTimely (op_of insn)) (register_writes insn)
timely_writes insn = let found = has_unit insn in timely (op_of insn) (operands_of insn) found.0 found.1

timely_write : (insn : Insn) (reg : Reg) (d : ℕ) → Contains (register_writes insn) (reg, d)
    → IsTimely (op_of insn) (reg, d)
timely_write insn reg d h = All-contains (IsTimely (op_of insn)) (register_writes insn) (reg, d) (timely_writes insn) h

-- every write lands at most four cycles after the issue
pub writes_delay : (insn : Insn) (reg : Reg) (d : ℕ) → Contains (register_writes insn) (reg, d) → d ≤ 4
writes_delay insn reg d h = (timely_write insn reg d h).0

-- and within the delay of the instruction
pub writes_delay_of : (insn : Insn) (reg : Reg) (d : ℕ) → Contains (register_writes insn) (reg, d)
    → d ≤ delay_of (op_of insn)
writes_delay_of insn reg d h = (timely_write insn reg d h).1

get_one : (x v : Reg × ℕ) (i : ℕ) → slice_get (x ∷ []) i ≡ Some v → i ≡ 0
get_one x v zero h = refl
get_one x v (suc i) h = cc

apart_one : (x v w : Reg × ℕ) (i j : ℕ) → slice_get (x ∷ []) i ≡ Some v → slice_get (x ∷ []) j ≡ Some w → i ≢ j
    → v.1 ≢ w.1
apart_one x v w i j a b ne = absurd (ne (cc (get_one x v i a, get_one x w j b)))

apart_two : (x y v w : Reg × ℕ) (i j : ℕ) → x.1 ≢ y.1
    → slice_get (x ∷ y ∷ []) i ≡ Some v → slice_get (x ∷ y ∷ []) j ≡ Some w → i ≢ j → v.1 ≢ w.1
apart_two x y v w zero zero d a b ne = absurd (ne refl)
apart_two x y v w zero (suc zero) d a b ne = λ e. d (cc)
apart_two x y v w (suc zero) zero d a b ne = λ e. d (cc)
apart_two x y v w (suc zero) (suc zero) d a b ne = absurd (ne refl)
apart_two x y v w (suc (suc i)) j d a b ne = cc
apart_two x y v w i (suc (suc j)) d a b ne = cc

apart_some : (c l : Bool) (x y v w : Reg × ℕ) (i j : ℕ) → (l ≡ true → x.1 ≢ y.1)
    → slice_get ((if c then x ∷ [] else []) ++ (if l then y ∷ [] else [])) i ≡ Some v
    → slice_get ((if c then x ∷ [] else []) ++ (if l then y ∷ [] else [])) j ≡ Some w → i ≢ j → v.1 ≢ w.1
apart_some true true x y v w i j d a b ne = apart_two x y v w i j (d refl) a b ne
apart_some true false x y v w i j d a b ne = apart_one x v w i j a b ne
apart_some false true x y v w i j d a b ne = apart_one y v w i j a b ne
apart_some false false x y v w i j d a b ne = cc

load_is_later : (op : Op) (reg base : Reg) → is_load op ≡ true → 0 ≢ delay_of op
load_is_later op reg base h = omega (arith, load_delay op h)

apart : (op : Op) (operands : Operands) (v w : Reg × ℕ) (i j : ℕ)
    → slice_get (writes_of op operands) i ≡ Some v → slice_get (writes_of op operands) j ≡ Some w → i ≢ j → v.1 ≢ w.1
apart op (Three x y d) v w i j a b ne = apart_one (d, delay_of op) v w i j a b ne
apart op (ConstantFirst k x d) v w i j a b ne = apart_one (d, delay_of op) v w i j a b ne
apart op (ConstantSecond x k d) v w i j a b ne = apart_one (d, delay_of op) v w i j a b ne
apart op (Two x d) v w i j a b ne = apart_one (d, delay_of op) v w i j a b ne
apart op (Field x k m d) v w i j a b ne = apart_one (d, delay_of op) v w i j a b ne
apart op (Constant k d) v w i j a b ne = apart_one (d, delay_of op) v w i j a b ne
apart op (Access reg base form offset) v w i j a b ne =
    apart_some (changes_base form) (is_load op) (base, 0) (reg, delay_of op) v w i j (load_is_later op reg base) a b ne
apart op (Block number) v w i j a b ne = cc
apart op (Register target) v w i j a b ne = cc

-- two writes of one instruction have different delays, so they never land in one cycle
pub writes_distinct : (insn : Insn) (reg other : Reg) (i j d e : ℕ)
    → slice_get (register_writes insn) i ≡ Some (reg, d) → slice_get (register_writes insn) j ≡ Some (other, e) → i ≢ j
    → d ≢ e
writes_distinct insn reg other i j d e a b ne = apart (op_of insn) (operands_of insn) (reg, d) (other, e) i j a b ne

few_access_reads : (s : Bool) (reg base : Reg) (offset : Offset)
    → length ((if s then reg ∷ [] else []) ++ base ∷ offset_reads offset) ≤ 3
few_access_reads true reg base (ByConstant k) = omega arith
few_access_reads true reg base (ByRegister r) = omega arith
few_access_reads false reg base (ByConstant k) = omega arith
few_access_reads false reg base (ByRegister r) = omega arith

few_destination_reads : (b : Bool) (d : Reg) → length (if b then d ∷ [] else []) ≤ 3
few_destination_reads true d = omega arith
few_destination_reads false d = omega arith

few_reads : (op : Op) (operands : Operands) → length (reads_of op operands) ≤ 3
few_reads op (Three a b d) = omega arith
few_reads op (ConstantFirst k a d) = omega arith
few_reads op (ConstantSecond a k d) = omega arith
few_reads op (Two a d) = omega arith
few_reads op (Field a k m d) = omega arith
few_reads op (Constant k d) = few_destination_reads (reads_destination op) d
few_reads op (Access reg base form offset) = few_access_reads (is_store op) reg base offset
few_reads op (Block number) = omega arith
few_reads op (Register target) = omega arith

-- the operands read at most three registers, repeats counted
pub reads_at_most_three : (insn : Insn) → length (operand_reads insn) ≤ 3
reads_at_most_three insn = few_reads (op_of insn) (operands_of insn)

-- and so one register at most three times
pub reads_count_at_most_three : (reg : Reg) (insn : Insn) → reads_count reg insn ≤ 3
reads_count_at_most_three reg insn =
    omega (arith, count_by-le-length (λ read. same_reg read reg) (operand_reads insn), reads_at_most_three insn)

-- ---- how long the writes of an instruction take

greatest_at_most : (writes : List (Reg × ℕ)) (n : ℕ) → All (λ w. w.1 ≤ n) writes → greatest_delay writes ≤ n
greatest_at_most [] n all = omega arith
greatest_at_most (w ∷ writes) n all =
    let first : w.1 ≤ n = All-head (λ v. v.1 ≤ n) w writes all in
    let rest : greatest_delay writes ≤ n = greatest_at_most writes n (All-tail (λ v. v.1 ≤ n) w writes all) in
    omega (arith, first, rest)

pub delay_within : (insn : Insn) → greatest_delay (register_writes insn) ≤ delay_of (op_of insn)
delay_within insn =
    greatest_at_most (register_writes insn) (delay_of (op_of insn))
    (All-weaker (λ w. (w.1 ≤ 4)
    × (w.1 ≤ delay_of (op_of insn))) (λ w. w.1 ≤ delay_of (op_of insn)) (λ w h. h.1) (register_writes insn)
    (timely_writes insn))

pub delay_short : (insn : Insn) → greatest_delay (register_writes insn) ≤ 4
delay_short insn =
    greatest_at_most (register_writes insn) 4
    (All-weaker (λ w. (w.1 ≤ 4)
    × (w.1 ≤ delay_of (op_of insn))) (λ w. w.1 ≤ 4) (λ w h. h.0) (register_writes insn) (timely_writes insn))
