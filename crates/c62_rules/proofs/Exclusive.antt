-- Two of which at most one runs.
use Rattle.std.proofs.Common.{◌≡◌, ◌≢◌, ℕ, zero, suc, ◌+◌, ◌-◌, ◌<◌, ◌≤◌, Bool, true, false, not, List, []}
use Rattle.std.proofs.Common.{◌∷◌, Option, Some, None, refl, sym, ◌∙◌, ap, subst, inl, inr, ⊎_elim, arith}
use Rattle.std.specs.Prelude.{◌==◌, ◌&&◌, ◌||◌, Contains, slice_get, if◌then◌else◌}
use Rattle.std.specs.List.{list_any}
use Rattle.std.proofs.lemmas.Bool.{cases_lt, and_parts, or_cases, or_parts}
use Rattle.std.proofs.lemmas.Bool.{false_from_ne_true, false≢true}
use Rattle.c62_op.specs.declared.register.Reg.{Reg}
use Rattle.c62_op.specs.declared.register.Cond.{Cond as Condition}
use Rattle.c62_op.specs.Takes.{same_reg}
use Rattle.c62_op.proofs.Registers.{same_reg-is, same_reg-refl}
use Rattle.c62_insn.specs.declared.insn.Insn.{Insn}
use Rattle.c62_insn.specs.Insn.{cond_of, register_writes}
use Rattle.c62_rules.specs.Exclusive.{writes_in, is_written_by, IsUnwritten, are_opposite, condition_in, exclusive_by}
use Rattle.c62_rules.specs.Exclusive.{are_exclusive, IsExclusive, ExactlyOneHolds, OppositeIsEither, ExclusiveIsTold}

-- ---- exclusive instructions

pub not_opposite : (a b : Bool) → (if a then not b else b) ≡ true → a ≢ b
not_opposite true true h e = false≢true h
not_opposite true false h e = false≢true (sym e)
not_opposite false true h e = false≢true e
not_opposite false false h e = false≢true h

opposite_from : (a b : Bool) → a ≢ b → (if a then not b else b) ≡ true
opposite_from true true ne = absurd (ne refl)
opposite_from true false ne = refl
opposite_from false true ne = refl
opposite_from false false ne = absurd (ne refl)

pub both_true : {a b : Bool} → a ≡ true → b ≡ true → (a && b) ≡ true
both_true {b = b} e f = ap (λ (t : Bool). t && b) e ∙ f

all_three : {a b c : Bool} → a ≡ true → b ≡ true → c ≡ true → ((a && b) && c) ≡ true
all_three e f g = both_true (both_true e f) g

some_write : (reg : Reg) (delay : ℕ) (writes : List (Reg × ℕ)) → Contains writes (reg, delay)
    → list_any (λ (write : Reg × ℕ). same_reg write.0 reg) writes ≡ false → ⊥
some_write reg delay [] (k, l, e) h = absurd (omega (arith, l))
some_write reg delay (w ∷ writes) (zero, l, e) h =
    let first : same_reg w.0 reg ≡ false =
    (or_parts (same_reg w.0 reg) (list_any (λ (write : Reg × ℕ). same_reg write.0 reg) writes) h).0 in
    let same : w.0 ≡ reg = ap (λ (x : Reg × ℕ). x.0) e in
    false≢true (sym (subst (λ (r : Reg). same_reg r reg ≡ false) same first) ∙ same_reg-refl reg)
some_write reg delay (w ∷ writes) (suc k, l, e) h =
    some_write reg delay writes (k, omega (arith, l), e)
    (or_parts (same_reg w.0 reg) (list_any (λ (write : Reg × ℕ). same_reg write.0 reg) writes) h).1

pub unwritten_by : (block : List Insn) (i count : ℕ) (reg : Reg) → is_written_by block i count reg ≡ false
    → (k delay : ℕ) (insn : Insn) → i ≤ k → k < i + count
    → slice_get block k ≡ Some insn → Contains (register_writes insn) (reg, delay) → ⊥
unwritten_by block i zero reg h k delay insn low high at writes = absurd (omega (arith, low, high))
unwritten_by block i (suc count) reg h k delay insn low high at writes =
    let parts = or_parts (is_written_by block i count reg) (writes_in reg (slice_get block (i + count))) h in
    ⊎_elim {C = ⊥}
    (λ lt. unwritten_by block i count reg parts.0 k delay insn low lt at writes)
    (λ ge.
    let last : i + count ≡ k = omega (arith, ge, high) in
    let here : writes_in reg (slice_get block k) ≡ false = subst (λ (n : ℕ). writes_in reg (slice_get block n) ≡ false)
    last parts.1 in
    some_write reg delay (register_writes insn) writes (subst (λ (o : Option Insn). writes_in reg o ≡ false) at here))
    (cases_lt k (i + count))

-- a write that the test finds
a_write : (reg : Reg) (writes : List (Reg × ℕ)) → list_any (λ (write : Reg × ℕ). same_reg write.0 reg) writes ≡ true
    → (delay : ℕ) × Contains writes (reg, delay)
a_write reg [] h = absurd (false≢true h)
a_write reg (w ∷ writes) h = elim
    (or_cases (same_reg w.0 reg) (list_any (λ (write : Reg × ℕ). same_reg write.0 reg) writes) h) [
      | inl first ↦ (let same : w.0 ≡ reg = same_reg-is w.0 reg first in
          (w.1, (0, omega arith, ap (λ (r : Reg). (r, w.1)) same)))
      | inr later ↦ (let found = a_write reg writes later in
          (found.0, (suc found.1.0, omega (arith, found.1.1), found.1.2)))
    ]

no_write : (reg : Reg) (writes : List (Reg × ℕ)) → ((delay : ℕ) → Contains writes (reg, delay) → ⊥)
    → list_any (λ (write : Reg × ℕ). same_reg write.0 reg) writes ≡ false
no_write reg writes none = false_from_ne_true (list_any (λ (write : Reg × ℕ). same_reg write.0 reg) writes)
    (λ h. let found = a_write reg writes h in none found.0 found.1)

-- and the other way round
pub none_written : (block : List Insn) (i count : ℕ) (reg : Reg) → IsUnwritten block i (i + count) reg
    → is_written_by block i count reg ≡ false
none_written block i zero reg free = refl
none_written block i (suc count) reg free =
    or_none (none_written block i count reg
    (λ k delay insn low high at. free k delay insn low (omega (arith, high)) at))
    (by_insn (slice_get block (i + count)) refl)
  where
    or_none : {a b : Bool} → a ≡ false → b ≡ false → (a || b) ≡ false
    or_none {b = b} e f = ap (λ (t : Bool). t || b) e ∙ f

    by_insn : (o : Option Insn) → slice_get block (i + count) ≡ o → writes_in reg o ≡ false
    by_insn None e = refl
    by_insn (Some insn) e = no_write reg (register_writes insn)
        (λ delay writes. free (i + count) delay insn (omega arith) (omega arith) e writes)

pub none_of : (b : Bool) → not b ≡ true → b ≡ false
none_of true h = absurd (false≢true h)
none_of false h = refl

pub exclusive-is : (block : List Insn) (i j : ℕ) (p q : Insn) → i < j → slice_get block i ≡ Some p
    → slice_get block j ≡ Some q → are_exclusive block i j ≡ true
    → IsExclusive block i j p q
exclusive-is block i j p q before at_i at_j h =
    by_conditions (cond_of p) (cond_of q) refl refl
    (subst (λ (o : Option Insn). exclusive_by block i j (cond_of p) (condition_in o) ≡ true) at_j
    (subst (λ (o : Option Insn). exclusive_by block i j (condition_in o) (condition_in (slice_get block j)) ≡ true) at_i
    h))
  where
    by_conditions : (c d : Option Condition) → cond_of p ≡ c → cond_of q ≡ d → exclusive_by block i j c d ≡ true
        → IsExclusive block i j p q
    by_conditions None d e f h = absurd (false≢true h)
    by_conditions (Some one) None e f h = absurd (false≢true h)
    by_conditions (Some one) (Some other) e f h =
        let parts = and_parts (are_opposite one other) (not (is_written_by block i (j - i) one.reg)) h in
        let tests = and_parts (same_reg one.reg other.reg) (if one.negated then not other.negated else other.negated)
        parts.0 in
        record {
          one = one;
          other = other;
          is_one = e;
          is_other = f;
          same = same_reg-is one.reg other.reg tests.0;
          opposite = not_opposite one.negated other.negated tests.1;
          unwritten = λ k delay insn low high at writes.
              unwritten_by block i (j - i) one.reg (none_of (is_written_by block i (j - i) one.reg) parts.1) k delay
              insn low (omega (arith, high, before)) at writes;
        }

-- what are_exclusive tells
pub exclusive-told : (block : List Insn) (i j : ℕ) (p q : Insn) → ExclusiveIsTold block i j p q
exclusive-told block i j p q before at_i at_j = (exclusive-is block i j p q before at_i at_j, from)
  where
    from : IsExclusive block i j p q → are_exclusive block i j ≡ true
    from x =
        let same : same_reg x.one.reg x.other.reg ≡ true = subst (λ (r : Reg). same_reg x.one.reg r ≡ true) x.same
        (same_reg-refl x.one.reg) in
        let count : j ≡ i + (j - i) = omega (arith, before) in
        let free : is_written_by block i (j - i) x.one.reg ≡ false
        = none_written block i (j - i) x.one.reg (subst (λ (n : ℕ). IsUnwritten block i n x.one.reg) count x.unwritten)
        in
        let told : exclusive_by block i j (Some x.one) (Some x.other) ≡ true
        = all_three same (opposite_from x.one.negated x.other.negated x.opposite) (ap not free) in
        subst (λ (o : Option Insn). exclusive_by block i j (condition_in o) (condition_in (slice_get block j)) ≡ true)
        (sym at_i)
        (subst (λ (o : Option Insn). exclusive_by block i j (cond_of p) (condition_in o) ≡ true) (sym at_j)
        (subst (λ (c : Option Condition). exclusive_by block i j c (cond_of q) ≡ true) (sym x.is_one)
        (subst (λ (d : Option Condition). exclusive_by block i j (Some x.one) d ≡ true) (sym x.is_other) told)))

-- opposite conditions hold in turn
pub opposite-either : (one other : Condition) → OppositeIsEither one other
opposite-either one other = (to, from)
  where
    holds : (a b t : Bool) → a ≢ b → (if a then t else not t) ≡ not (if b then t else not t)
    holds true true t ne = absurd (ne refl)
    holds true false true ne = refl
    holds true false false ne = refl
    holds false true true ne = refl
    holds false true false ne = refl
    holds false false t ne = absurd (ne refl)

    to : are_opposite one other ≡ true → ExactlyOneHolds one other
    to h =
        let tests = and_parts (same_reg one.reg other.reg) (if one.negated then not other.negated else other.negated) h
        in
        record {
          same = same_reg-is one.reg other.reg tests.0;
          either = λ value. holds one.negated other.negated (value == 0)
              (not_opposite one.negated other.negated tests.1);
        }

    differ : (a b : Bool) → (if a then true else false) ≡ not (if b then true else false) → a ≢ b
    differ true true h e = false≢true (sym h)
    differ true false h e = false≢true (sym e)
    differ false true h e = false≢true e
    differ false false h e = false≢true h

    from : ExactlyOneHolds one other → are_opposite one other ≡ true
    from x =
        let same : same_reg one.reg other.reg ≡ true = subst (λ (r : Reg). same_reg one.reg r ≡ true) x.same
        (same_reg-refl one.reg) in
        let tests : (if one.negated then not other.negated else other.negated) ≡ true
        = opposite_from one.negated other.negated (differ one.negated other.negated (x.either 0)) in
        both_true same tests
