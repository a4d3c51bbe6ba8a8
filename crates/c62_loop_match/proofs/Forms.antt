-- What steps and tests do, told by their form.
use Rattle.std.proofs.Common.{◌≡◌, ℕ, zero, suc, ◌+◌, ◌-◌, ◌<◌, ◌≤◌, ◌%◌, ◌^◌, ℤ, pos, negsuc, Bool, true, false, not}
use Rattle.std.proofs.Common.{◌||◌, cond, List, [], ◌∷◌, ◌++◌, map, Option, Some, None, refl, sym, ◌∙◌, ap}
use Rattle.std.proofs.Common.{arith}
use Rattle.std.specs.Prelude.{◌==◌, int_le, All, option_map}
use Rattle.std.specs.List.{list_all, zip}
use Rattle.std.specs.Option.{option_to_list}
use Rattle.std.proofs.lemmas.Bool.{cond-true, cond-false, and_parts, not-true, eq-eqb, ne_eqb, eqb-true}
use Rattle.std.proofs.lemmas.Bool.{false≢true}
use Rattle.std.proofs.lemmas.Int.{ints}
use Rattle.c62_op.specs.declared.register.Reg.{Reg}
use Rattle.c62_op.specs.declared.register.Cond.{Cond as Condition}
use Rattle.c62_op.specs.declared.operands.Op.{Op}
use Rattle.c62_op.specs.declared.operands.Op.TheVariants.{B as Branch, Add, Sub}
use Rattle.c62_op.specs.declared.operands.Operands.{Operands}
use Rattle.c62_op.specs.declared.operands.Operands.TheVariants.{ConstantFirst, ConstantSecond, Block}
use Rattle.c62_op.specs.Shape.{is_branch, is_load, is_store, reads_of, writes_of}
use Rattle.c62_op.specs.Takes.{same_reg}
use Rattle.c62_op.specs.Word.{word as word_of, sum, difference}
use Rattle.c62_op.proofs.Registers.{same_reg-is}
use Rattle.c62_insn.specs.declared.insn.Insn.{Insn}
use Rattle.c62_insn.specs.declared.effect.Target.TheVariants.{Block as ToBlock}
use Rattle.c62_insn.specs.Insn.{op_of, operands_of, cond_of, is_condition_on}
use Rattle.c62_insn.specs.Insn.{reads_register}
use Rattle.c62_insn.specs.Effect.{runs_of, values_of, access_of, target_of}
use Rattle.c62_read.specs.declared.block.SerialInsn.{SerialInsn}
use Rattle.c62_serial.specs.Memory.{placed_from}
use Rattle.c62_serial.specs.Effect.{Act, no_act, act_of, loaded}
use Rattle.c62_loop.specs.Counter.{constant_in, steps_on, touches, IsStep, StopsAtZero, IsTest, IsCounted}
use Rattle.c62_loop_match.specs.Form.{is_guarded, runs_above_zero, lowers, is_step, stops, goes_to, is_test, counts}

-- ---- conditions

ran : (Reg → ℕ) → Option Condition → Bool
ran word c = runs_of c (option_map (λ cond. word cond.reg) c)

guarded_runs : (counter : Reg) (c : Option Condition) (word : Reg → ℕ) → is_guarded counter c ≡ true
    → ran word c ≡ not (word counter == 0)
unfolding ran
guarded_runs counter None word e = absurd (false≢true e)
guarded_runs counter (Some c) word e =
    let parts = and_parts (same_reg c.reg counter) (not c.negated) e in
    let same : c.reg ≡ counter = same_reg-is c.reg counter parts.0 in
    cond-false _ _ _ (not-true c.negated parts.1) ∙ ap (λ r. not (word r == 0)) same

free_runs : (counter : Reg) (c : Option Condition) (word : Reg → ℕ) → runs_above_zero counter c ≡ true
    → 0 < word counter → ran word c ≡ true
unfolding ran
free_runs counter None word e some = refl
free_runs counter (Some c) word e some = guarded_runs counter (Some c) word e
    ∙ ap not (ne_eqb (word counter) 0 (λ z. omega arith))

-- a condition is on no other register
pub only_counter : (counter reg : Reg) (c : Option Condition) → runs_above_zero counter c ≡ true
    → is_condition_on reg c ≡ true → reg ≡ counter
only_counter counter reg None e on = absurd (false≢true on)
only_counter counter reg (Some c) e on =
    sym (same_reg-is c.reg reg on) ∙ same_reg-is c.reg counter (and_parts (same_reg c.reg counter) (not c.negated) e).0

pub guarded_above : (counter : Reg) (c : Option Condition) → is_guarded counter c ≡ true
    → runs_above_zero counter c ≡ true
guarded_above counter None e = absurd (false≢true e)
guarded_above counter (Some c) e = e

pub guarded_on : (counter : Reg) (c : Option Condition) → is_guarded counter c ≡ true → is_condition_on counter c ≡ true
guarded_on counter None e = absurd (false≢true e)
guarded_on counter (Some c) e = (and_parts (same_reg c.reg counter) (not c.negated) e).0

-- ---- forms

-- the two forms of a step
pub data Lowers (counter : Reg) (op : Op) (operands : Operands) : Type 0 where
  BySub : (n : ℕ) → 1 ≤ n → n ≤ 31 → op ≡ Sub → operands ≡ ConstantSecond counter (pos n) counter
      → Lowers counter op operands
  ByAdd : (n : ℕ) → n ≤ 30 → op ≡ Add → operands ≡ ConstantFirst (negsuc n) counter counter → Lowers counter op operands

pub lowers_are : (counter : Reg) (op : Op) (operands : Operands) → lowers counter op operands ≡ true
    → Lowers counter op operands
lowers_are counter Sub (ConstantSecond from k to) e =
    let first = and_parts (same_reg from counter) _ e in
    let second = and_parts (same_reg to counter) _ first.1 in
    let range = and_parts (int_le (pos 1) k) (int_le k (pos 31)) second.1 in
    by_sign k (same_reg-is from counter first.0) (same_reg-is to counter second.0) range.0 range.1
  where
    by_sign : (k : ℤ) → from ≡ counter → to ≡ counter → int_le (pos 1) k ≡ true → int_le k (pos 31) ≡ true
        → Lowers counter Sub (ConstantSecond from k to)
    by_sign (pos n) one two low high = BySub n (omega (arith, ints, low)) (omega (arith, ints, high)) refl
        (ap (λ r. ConstantSecond r (pos n) to) one ∙ ap (λ r. ConstantSecond counter (pos n) r) two)
    by_sign (negsuc n) one two low high = absurd (false≢true low)
lowers_are counter Add (ConstantFirst k from to) e =
    let first = and_parts (same_reg from counter) _ e in
    let second = and_parts (same_reg to counter) _ first.1 in
    let range = and_parts (int_le (negsuc 30) k) (int_le k (negsuc 0)) second.1 in
    by_sign k (same_reg-is from counter first.0) (same_reg-is to counter second.0) range.0 range.1
  where
    by_sign : (k : ℤ) → from ≡ counter → to ≡ counter → int_le (negsuc 30) k ≡ true → int_le k (negsuc 0) ≡ true
        → Lowers counter Add (ConstantFirst k from to)
    by_sign (pos n) one two low high = absurd (false≢true high)
    by_sign (negsuc n) one two low high = ByAdd n (omega (arith, ints, low)) refl
        (ap (λ r. ConstantFirst (negsuc n) r to) one ∙ ap (λ r. ConstantFirst (negsuc n) counter r) two)
lowers_are counter op operands e = absurd (false≢true e)

pub record GoesTo (number : ℕ) (op : Op) (operands : Operands) : Type 0 where
  pub is_branch : op ≡ Branch
  pub to : operands ≡ Block number

pub goes_is : (number : ℕ) (op : Op) (operands : Operands) → goes_to number op operands ≡ true
    → GoesTo number op operands
goes_is number Branch (Block label) e = record { is_branch = refl; to = ap Block (eqb-true label number e) }
goes_is number op operands e = absurd (false≢true e)

-- ---- what they do

acts : Op → Operands → Bool → ℕ → (Reg → ℕ) → (ℕ → ℕ) → Act
acts op operands runs base word byte = cond runs (record {
  writes = zip (writes_of op operands)
      (values_of op operands (map word (reads_of op operands)) ++ option_to_list
      (loaded byte op (placed_from base (access_of op operands (map word (reads_of op operands))))));
  access = placed_from base (access_of op operands (map word (reads_of op operands)));
  target = target_of operands (map word (reads_of op operands));
}) no_act

acts_are : (insn : Insn) (base : ℕ) (word : Reg → ℕ) (byte : ℕ → ℕ)
    → act_of insn base word byte ≡ acts (op_of insn) (operands_of insn) (ran word (cond_of insn)) base word byte
unfolding acts ran
acts_are insn base word byte = refl

lowered : Reg → ℕ → ℕ → Act
lowered counter value size = record { writes = ((counter, 0), value - size) ∷ []; access = None; target = None }

taken_off : (n w : ℕ) → 1 ≤ n → n ≤ 31 → n ≤ w → w < 2 ^ 32 → difference w (word_of (pos n)) ≡ w - n
taken_off n w low high enough small = let e : n % 2 ^ 32 ≡ n = omega arith in ap (λ m. (w + (2 ^ 32 - m)) % 2 ^ 32) e
    ∙ omega arith

added_on : (n w : ℕ) → n ≤ 30 → suc n ≤ w → w < 2 ^ 32 → sum (word_of (negsuc n)) w ≡ w - suc n
added_on n w high enough small = let e : n % 2 ^ 32 ≡ n = omega arith in ap (λ m. (2 ^ 32 - 1 - m + w) % 2 ^ 32) e
    ∙ omega arith

at_rest : (entry : SerialInsn) (base : ℕ) (word : Reg → ℕ) (byte : ℕ → ℕ)
    → acts (op_of entry.insn) (operands_of entry.insn) false base word byte ≡ no_act
unfolding acts
at_rest entry base word byte = refl

turned : (number : ℕ) (base : ℕ) (word : Reg → ℕ) (byte : ℕ → ℕ) (b : Bool)
    → acts Branch (Block number) (not b) base word byte ≡ cond b no_act
    (record { writes = []; access = None; target = Some (ToBlock number) })
unfolding acts
turned number base word byte true = refl
turned number base word byte false = refl

module _ (counter : Reg) where
  step_acts : (op : Op) (operands : Operands) → Lowers counter op operands → (base : ℕ) (word : Reg → ℕ) (byte : ℕ → ℕ)
      → constant_in operands ≤ word counter → word counter < 2 ^ 32
      → acts op operands true base word byte ≡ lowered counter (word counter) (constant_in operands)
  unfolding acts lowered
  step_acts op operands (BySub n low high is_op is_operands) base word byte enough small =
      let size : constant_in operands ≡ n = ap constant_in is_operands in
      ap (λ o. acts o operands true base word byte) is_op ∙ ap (λ o. acts Sub o true base word byte) is_operands
      ∙ ap (λ v. record { writes = ((counter, 0), v) ∷ []; access = None; target = None })
      (taken_off n (word counter) low high (omega arith) small)
      ∙ ap (λ k. lowered counter (word counter) k) (sym size)
  step_acts op operands (ByAdd n high is_op is_operands) base word byte enough small =
      let size : constant_in operands ≡ suc n = ap constant_in is_operands in
      ap (λ o. acts o operands true base word byte) is_op ∙ ap (λ o. acts Add o true base word byte) is_operands
      ∙ ap (λ v. record { writes = ((counter, 0), v) ∷ []; access = None; target = None })
      (added_on n (word counter) high (omega arith) small)
      ∙ ap (λ k. lowered counter (word counter) k) (sym size)

  some_size : (op : Op) (operands : Operands) → Lowers counter op operands → 1 ≤ constant_in operands
  some_size op operands (BySub n low high is_op is_operands) = let size : constant_in operands ≡ n = ap constant_in
      is_operands in omega arith
  some_size op operands (ByAdd n high is_op is_operands) = let size : constant_in operands ≡ suc n = ap constant_in
      is_operands in omega arith

  pub step_writes : (op : Op) (operands : Operands) → Lowers counter op operands
      → writes_of op operands ≡ (counter, 0) ∷ []
  step_writes op operands (BySub n low high is_op is_operands) = ap (λ o. writes_of o operands) is_op
      ∙ ap (λ o. writes_of Sub o) is_operands
  step_writes op operands (ByAdd n high is_op is_operands) = ap (λ o. writes_of o operands) is_op
      ∙ ap (λ o. writes_of Add o) is_operands

  pub step_reads : (op : Op) (operands : Operands) → Lowers counter op operands → reads_of op operands ≡ counter ∷ []
  step_reads op operands (BySub n low high is_op is_operands) = ap (λ o. reads_of o operands) is_op
      ∙ ap (λ o. reads_of Sub o) is_operands
  step_reads op operands (ByAdd n high is_op is_operands) = ap (λ o. reads_of o operands) is_op
      ∙ ap (λ o. reads_of Add o) is_operands

  pub no_access : (op : Op) (operands : Operands) → Lowers counter op operands → (is_load op ≡ false)
      × (is_store op ≡ false)
  no_access op operands (BySub n low high is_op is_operands) = (ap is_load is_op, ap is_store is_op)
  no_access op operands (ByAdd n high is_op is_operands) = (ap is_load is_op, ap is_store is_op)

  -- a step counts
  pub is_step-counts : (entry : SerialInsn) → is_step counter entry.insn ≡ true → IsStep counter entry
  unfolding lowered
  is_step-counts entry e base word byte enough small =
      let parts = and_parts (runs_above_zero counter (cond_of entry.insn))
      (lowers counter (op_of entry.insn) (operands_of entry.insn)) e in
      let form = lowers_are counter (op_of entry.insn) (operands_of entry.insn) parts.1 in
      let some : 1 ≤ constant_in (operands_of entry.insn) = some_size (op_of entry.insn) (operands_of entry.insn) form
      in
      let runs : ran word (cond_of entry.insn) ≡ true = free_runs counter (cond_of entry.insn) word parts.0
      (omega arith) in
      acts_are entry.insn base word byte
      ∙ ap (λ b. acts (op_of entry.insn) (operands_of entry.insn) b base word byte) runs
      ∙ step_acts (op_of entry.insn) (operands_of entry.insn) form base word byte enough small

  -- and one that stops at zero does
  pub stops-stops : (entry : SerialInsn) → stops counter entry.insn ≡ true → StopsAtZero counter entry
  stops-stops entry e =
      let parts = and_parts (is_guarded counter (cond_of entry.insn)) (constant_in (operands_of entry.insn) == 1) e in
      record {
        one = eqb-true (constant_in (operands_of entry.insn)) 1 parts.1;
        stops = λ base word byte z.
            (let rests : ran word (cond_of entry.insn) ≡ false = guarded_runs counter (cond_of entry.insn) word
            parts.0 ∙ ap not (eq-eqb (word counter) 0 z) in
            acts_are entry.insn base word byte
            ∙ ap (λ b. acts (op_of entry.insn) (operands_of entry.insn) b base word byte) rests
            ∙ at_rest entry base word byte);
      }

  -- a test tests
  pub is_test-tests : (number : ℕ) (entry : SerialInsn) → is_test counter number entry.insn ≡ true
      → IsTest counter number entry
  is_test-tests number entry e base word byte =
      let parts = and_parts (is_guarded counter (cond_of entry.insn))
      (goes_to number (op_of entry.insn) (operands_of entry.insn)) e in
      let form = goes_is number (op_of entry.insn) (operands_of entry.insn) parts.1 in
      acts_are entry.insn base word byte
      ∙ ap (λ b. acts (op_of entry.insn) (operands_of entry.insn) b base word byte)
      (guarded_runs counter (cond_of entry.insn) word parts.0)
      ∙ ap (λ o. acts o (operands_of entry.insn) (not (word counter == 0)) base word byte) form.is_branch
      ∙ ap (λ o. acts Branch o (not (word counter == 0)) base word byte) form.to
      ∙ turned number base word byte (word counter == 0)

  -- ---- what stands by itself

  pub counts-counted : (number : ℕ) (entry : SerialInsn) → counts counter number entry ≡ true
      → IsCounted counter number entry
  counts-counted number entry e = record {
    step = λ t. is_step-counts entry (sym (cond-true _ _ _ t) ∙ e);
    test = λ f t. is_test-tests number entry (sym (cond-true _ _ _ t) ∙ sym (cond-false _ _ _ f) ∙ e);
    other = λ f. not-true _ (sym (cond-false _ _ _ f) ∙ sym (cond-false _ _ _ (untouched f)) ∙ e);
  }
    where
      untouched : touches counter entry ≡ false → steps_on counter entry ≡ false
      untouched f = by_test (steps_on counter entry) refl
        where
          by_test : (b : Bool) → steps_on counter entry ≡ b → steps_on counter entry ≡ false
          by_test false s = s
          by_test true s = absurd (false≢true (sym f ∙ ap (λ b. b || reads_register entry.insn counter) s))

  pub all-counted : (number : ℕ) (entries : List SerialInsn) → list_all (counts counter number) entries ≡ true
      → All (IsCounted counter number) entries
  all-counted number [] e k d l = absurd (omega arith)
  all-counted number (x ∷ xs) e zero d l = counts-counted number x (and_parts _ _ e).0
  all-counted number (x ∷ xs) e (suc k) d l = all-counted number xs (and_parts _ _ e).1 k d (omega arith)

-- ---- what stands above the label

pub all-straight : (entries : List SerialInsn) → list_all (λ (entry : SerialInsn). not (is_branch (op_of entry.insn)))
    entries ≡ true
    → All (λ (entry : SerialInsn). is_branch (op_of entry.insn) ≡ false) entries
all-straight [] e k d l = absurd (omega arith)
all-straight (x ∷ xs) e zero d l = not-true (is_branch (op_of x.insn)) (and_parts _ _ e).0
all-straight (x ∷ xs) e (suc k) d l = all-straight xs (and_parts _ _ e).1 k d (omega arith)
