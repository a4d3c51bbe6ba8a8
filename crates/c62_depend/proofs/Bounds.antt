-- The bounds that the sets of registers tell are those of the cases.
use Rattle.c62_depend.proofs.Common.{◌≡◌, ℕ, suc, ◌+◌, ◌≤◌, ℤ, pos, ◌-ℤ◌, ◌≤ℤ◌, Bool, true, false, List, [], ◌∷◌}
use Rattle.c62_depend.proofs.Common.{Option, Some, None, refl, sym, ◌∙◌}
use Rattle.c62_depend.proofs.Common.{arith, inl, inr, ◌⊎◌, Contains, All, ◌==◌, if◌then◌else◌, list_any, ints}
use Rattle.c62_depend.proofs.Common.{both_ways, false_from_ne_true}
use Rattle.c62_depend.proofs.Common.{or_cases, or_left, or_right, and_parts, cond_both, nat_tests, All-nil, All-cons}
use Rattle.c62_depend.proofs.Common.{All-append, All-contains, Reg}
use Rattle.c62_depend.proofs.Common.{Op, Operands, Three, ConstantFirst, ConstantSecond, Two, Field, Constant, Access}
use Rattle.c62_depend.proofs.Common.{same_reg, delay_of, is_load}
use Rattle.c62_depend.proofs.Common.{changes_base, writes_of, op_of, operands_of, register_writes, reads_register}
use Rattle.c62_depend.proofs.Common.{same_reg-is, same_reg-refl, Uses}
use Rattle.c62_depend.proofs.Common.{RegSet, reg_in, shares, is_write_with, greater, read_after_write, write_after_read}
use Rattle.c62_depend.proofs.Common.{write_after_write}
use Rattle.c62_depend.proofs.Common.{by_registers, latency_of, eqb-true, ◌&&◌, not}
use Rattle.std.proofs.lemmas.List.Folds.{list_any_at}
use Rattle.c62_insn.proofs.InsnLemmas.{writes_delay_of}
use Rattle.c62_pair.proofs.RegSets.{shared, shares_one}
use Rattle.c62_depend.proofs.Greatest.{IsGreatest, OfEither, IsGreatest-tests, IsGreatest-same, IsGreatest-either}
use Rattle.c62_depend.proofs.Greatest.{IsGreatest-one}
use Rattle.c62_depend.proofs.Latencies.{some_under, under, at_most, ByRead, BySpared, ByWrites, ByRegisters, By}
use Rattle.c62_depend.proofs.Latencies.{read-greatest, spared-greatest}
use Rattle.c62_depend.proofs.Latencies.{writes-greatest, all-greatest}

-- ---- what the sets tell

abbrev pub bound_if : Bool → ℤ → Option ℤ
bound_if applies bound = if applies then Some bound else None

-- 1: the later one reads what the earlier one writes
abbrev pub told_awaited : Uses → Uses → Option ℤ
told_awaited p q = greater (bound_if (shares p.results q.reads) (pos (p.delay + 1)))
    (bound_if (shares p.at_once q.reads) (pos 1))

-- 2: the later one writes what the earlier one reads
abbrev pub told_spared : Uses → Uses → Option ℤ
told_spared p q = greater (bound_if (shares p.reads q.at_once) (pos 0))
    (bound_if (shares p.reads q.results) (pos 0 -ℤ pos q.delay))

-- 3: both write one register, the earlier one with its delay, or at once
abbrev pub told_after_result : Uses → Uses → Option ℤ
told_after_result p q =
    greater (bound_if (shares p.results q.at_once) (pos (p.delay + 1)))
    (bound_if (shares p.results q.results) (pos (p.delay + 1) -ℤ pos q.delay))

abbrev pub told_after_at_once : Uses → Uses → Option ℤ
told_after_at_once p q = greater (bound_if (shares p.at_once q.at_once) (pos 1))
    (bound_if (shares p.at_once q.results) (pos 1 -ℤ pos q.delay))

abbrev pub told_overwritten : Bool → Uses → Uses → Option ℤ
told_overwritten exclusive p q = if exclusive then None else greater (told_after_result p q) (told_after_at_once p q)

-- all three
abbrev pub told : Bool → Uses → Uses → Option ℤ
told exclusive p q = greater (told_awaited p q) (greater (told_spared p q) (told_overwritten exclusive p q))

-- ---- the writes of an instruction

listed : (ws : List (Reg × ℕ)) (delay : ℕ) (reg : Reg) → list_any (is_write_with delay reg) ws ≡ true
    → Contains ws (reg, delay)
listed [] delay reg h = cc
listed (w ∷ ws) delay reg h = elim (or_cases (is_write_with delay reg w) (list_any (is_write_with delay reg) ws) h) [
  | inl first ↦
      let parts = and_parts (same_reg w.0 reg) (w.1 == delay) first in
      (0, omega arith, rw (same_reg-is w.0 reg parts.0, eqb-true w.1 delay parts.1) refl)
  | inr later ↦ (let w = listed ws delay reg later in (suc w.0, omega (arith, w.1), w.2))
]

is_listed : (ws : List (Reg × ℕ)) (delay : ℕ) (reg : Reg) → Contains ws (reg, delay)
    → list_any (is_write_with delay reg) ws ≡ true
is_listed ws delay reg w =
    list_any_at (is_write_with delay reg) ws w.0 (reg, delay) w.1
    (rw (w.2, same_reg-refl reg) (grind (arith, nat_tests)))

-- a write has no delay, or that of the instruction
abbrev IsDelay : Op → Reg × ℕ → Type 0
IsDelay op write = (write.1 ≡ 0) ⊎ (write.1 ≡ delay_of op)

one_result : (op : Op) (d : Reg) → All (IsDelay op) ((d, delay_of op) ∷ [])
one_result op d = All-cons (IsDelay op) (d, delay_of op) [] (inr refl) (All-nil (IsDelay op))

delays_of : (op : Op) (operands : Operands) → All (IsDelay op) (writes_of op operands)
delays_of op (Three a b d) = one_result op d
delays_of op (ConstantFirst k a d) = one_result op d
delays_of op (ConstantSecond a k d) = one_result op d
delays_of op (Two a d) = one_result op d
delays_of op (Field a k m d) = one_result op d
delays_of op (Constant k d) = one_result op d
delays_of op (Access reg base form offset) =
    All-append (IsDelay op) _ _
    (cond_both (changes_base form) ((base, 0) ∷ []) [] (All (IsDelay op))
    (λ _. All-cons (IsDelay op) (base, 0) [] (inl refl) (All-nil (IsDelay op)))
    (λ _. All-nil (IsDelay op)))
    (cond_both (is_load op) ((reg, delay_of op) ∷ []) [] (All (IsDelay op)) (λ _. one_result op reg)
    (λ _. All-nil (IsDelay op)))
delays_of op _ = All-nil (IsDelay op)

-- ---- the sets of an instruction

-- what it writes with its delay, or at once
abbrev landing : Uses → Bool → RegSet
landing u true = u.results
landing u false = u.at_once

abbrev after : Uses → Bool → ℕ
after u true = u.delay
after u false = 0

-- a register of such a set is written with its delay
pub write_of : (u : Uses) (late : Bool) (reg : Reg) → reg_in (landing u late) reg ≡ true
    → Contains (register_writes u.insn) (reg, after u late)
write_of u true reg h = rw u.delay_is
    (listed (register_writes u.insn) (delay_of (op_of u.insn)) reg (sym (u.results_are reg) ∙ h))
write_of u false reg h = listed (register_writes u.insn) 0 reg (sym (u.at_once_are reg) ∙ h)

-- and a write is in the set of its delay
pub set_of : (u : Uses) (reg : Reg) (d : ℕ) → Contains (register_writes u.insn) (reg, d)
    → (late : Bool) × (d ≡ after u late) × (reg_in (landing u late) reg ≡ true)
set_of u reg d w = elim
    (All-contains (IsDelay (op_of u.insn)) (register_writes u.insn) (reg, d)
    (delays_of (op_of u.insn) (operands_of u.insn)) w) [
      | inl none ↦ (false, none, u.at_once_are reg ∙ is_listed (register_writes u.insn) 0 reg (rw none at w))
      | inr own ↦ (
        true,
        own ∙ sym u.delay_is,
        u.results_are reg
            ∙ is_listed (register_writes u.insn) (delay_of (op_of u.insn)) reg (rw own at w),
      )
    ]

pub is_written : (u : Uses) (late : Bool) (reg : Reg) → reg_in (landing u late) reg ≡ true → reg_in u.written reg ≡ true
is_written u true reg h = u.written_are reg ∙ or_right (reg_in u.at_once reg) (reg_in u.results reg) h
is_written u false reg h = u.written_are reg ∙ or_left (reg_in u.at_once reg) (reg_in u.results reg) h

-- ---- two instructions

-- 1: the later one reads what the earlier one writes
abbrev Awaited : Uses → Uses → Bool → ℤ → Type 0
Awaited p q late b = (shares (landing p late) q.reads ≡ true) × (b ≡ pos (after p late + 1))

-- 2: the later one writes what the earlier one reads
abbrev Spared : Uses → Uses → Bool → ℤ → Type 0
Spared p q late b = (shares p.reads (landing q late) ≡ true) × (b ≡ pos 0 -ℤ pos (after q late))

-- 3: both write one register
abbrev Landed : Uses → Uses → Bool → Bool → ℤ → Type 0
Landed p q first late b = (shares (landing p first) (landing q late) ≡ true)
    × (b ≡ pos (after p first + 1) -ℤ pos (after q late))

abbrev Overwritten : Uses → Uses → Bool → ℤ → Type 0
Overwritten p q first = OfEither (Landed p q first)

module _ (p q : Uses) where
  from_awaited : (b : ℤ) → OfEither (Awaited p q) b → ByRead p.insn q.insn b
  from_awaited b (late, (met, e)) =
      let reg = shared (landing p late) q.reads met in (
        (reg.0, after p late),
        write_of p late reg.0 reg.1,
        under (reads_register q.insn reg.0) _ b
            (sym (q.reads_are reg.0) ∙ reg.2) e,
      )

  to_awaited : (b : ℤ) → ByRead p.insn q.insn b → OfEither (Awaited p q) b
  to_awaited b ((reg, d), w, e) =
      let u = some_under (reads_register q.insn reg) (pos (d + 1)) b e in
      let set = set_of p reg d w in
      (set.0, (shares_one (landing p set.0) q.reads reg set.2 (q.reads_are reg ∙ u.0), rw (← set.1) u.1))

  awaited_is : told_awaited p q ≡ read_after_write p.insn q.insn
  awaited_is =
      IsGreatest-one (ByRead p.insn q.insn) (told_awaited p q) (read_after_write p.insn q.insn)
      (IsGreatest-same (OfEither (Awaited p q)) (ByRead p.insn q.insn) (told_awaited p q)
      (IsGreatest-tests (λ late. shares (landing p late) q.reads) (λ late. pos (after p late + 1)) true
      (pos (p.delay + 1))
      (pos 1) refl refl) from_awaited to_awaited)
      (read-greatest p.insn q.insn)

  from_spared : (b : ℤ) → OfEither (Spared p q) b → BySpared p.insn q.insn b
  from_spared b (late, (met, e)) =
      let reg = shared p.reads (landing q late) met in (
        (reg.0, after q late),
        write_of q late reg.0 reg.2,
        under (reads_register p.insn reg.0) _ b
            (sym (p.reads_are reg.0) ∙ reg.1) e,
      )

  to_spared : (b : ℤ) → BySpared p.insn q.insn b → OfEither (Spared p q) b
  to_spared b ((reg, d), w, e) =
      let u = some_under (reads_register p.insn reg) (pos 0 -ℤ pos d) b e in
      let set = set_of q reg d w in
      (set.0, (shares_one p.reads (landing q set.0) reg (p.reads_are reg ∙ u.0) set.2, rw (← set.1) u.1))

  spared_is : told_spared p q ≡ write_after_read p.insn q.insn
  spared_is =
      IsGreatest-one (BySpared p.insn q.insn) (told_spared p q) (write_after_read p.insn q.insn)
      (IsGreatest-same (OfEither (Spared p q)) (BySpared p.insn q.insn) (told_spared p q)
      (IsGreatest-tests (λ late. shares p.reads (landing q late)) (λ late. pos 0 -ℤ pos (after q late)) false (pos 0)
      (pos 0 -ℤ pos q.delay) refl refl) from_spared to_spared)
      (spared-greatest p.insn q.insn)

  from_overwritten : (b : ℤ) → OfEither (Overwritten p q) b → ByWrites p.insn q.insn b
  from_overwritten b (first, (late, (met, e))) =
      let reg = shared (landing p first) (landing q late) met in (
        (reg.0, after p first),
        write_of p first reg.0 reg.1,
        ((reg.0, after q late), write_of q late reg.0 reg.2, under (same_reg reg.0 reg.0) _ b (same_reg-refl reg.0) e),
      )

  to_overwritten : (b : ℤ) → ByWrites p.insn q.insn b → OfEither (Overwritten p q) b
  to_overwritten b ((reg, d), one, ((other, f), two, e)) =
      let u = some_under (same_reg reg other) (pos (d + 1) -ℤ pos f) b e in
      let set = set_of p reg d one in
      let next = set_of q reg f (rw (same_reg-is reg other u.0) two) in
      let is : b ≡ pos (after p set.0 + 1) -ℤ pos (after q next.0) = rw (← set.1, ← next.1) u.1 in
      (set.0, (next.0, (shares_one (landing p set.0) (landing q next.0) reg set.2 next.2, is)))

  overwritten_is : (exclusive : Bool) → told_overwritten exclusive p q ≡ write_after_write exclusive p.insn q.insn
  overwritten_is true = refl
  overwritten_is false =
      IsGreatest-one (ByWrites p.insn q.insn) (told_overwritten false p q) (write_after_write false p.insn q.insn)
      (IsGreatest-same (OfEither (Overwritten p q)) (ByWrites p.insn q.insn) (told_overwritten false p q)
      (IsGreatest-either (Overwritten p q) true (told_after_result p q) (told_after_at_once p q)
      (on true (pos (p.delay + 1)) (omega (arith, ints))) (on false (pos 1) refl)) from_overwritten to_overwritten)
      (writes-greatest p.insn q.insn)
    where
      on : (first : Bool) (b : ℤ) → b ≡ pos (after p first + 1) -ℤ pos 0
          → IsGreatest (Overwritten p q first) (greater (bound_if (shares (landing p first) q.at_once) b)
          (bound_if (shares (landing p first) q.results) (pos (after p first + 1) -ℤ pos q.delay)))
      on first b is =
          IsGreatest-tests (λ late. shares (landing p first) (landing q late))
          (λ late. pos (after p first + 1) -ℤ pos (after q late)) false
          b (pos (after p first + 1) -ℤ pos q.delay) is refl

  -- what the sets tell is the greatest bound of the cases of registers
  pub told_is : (exclusive : Bool) → told exclusive p q ≡ by_registers exclusive p.insn q.insn
  unfolding by_registers
  told_is exclusive = rw (awaited_is, spared_is, overwritten_is exclusive) refl
