-- The instructions that are open at a register, and how the tables of them grow.
use Rattle.c62_depend.proofs.Common.{◌≡◌, ℕ, suc, ◌+◌, ◌-◌, ◌<◌, Bool, true, false, List, Option, Some, refl, sym, ap}
use Rattle.c62_depend.proofs.Common.{◌∙◌, arith, inl, inr, ◌&&◌, ◌||◌, not, ◌==◌, if◌then◌else◌, nat_lt, nat_tests}
use Rattle.c62_depend.proofs.Common.{get_or, length, slice_get, cases_eq, cases_lt, Reg, Insn, Uses, RegSet, reg_in}
use Rattle.c62_depend.proofs.Common.{insns_in, or_left, or_right, reads_register, cond_of, zero}
use Rattle.std.specs.Prelude.{is_none, replicate}
use Rattle.c62_op.specs.Register.{register_index}
use Rattle.c62_depend.proofs.NumberSets.{none_in}
use Rattle.c62_rules.specs.Dependence.{writes_in}
use Rattle.c62_depend.specs.Direct.{always_writes, is_settled_by, is_open}
use Rattle.c62_depend.specs.Open.{uses_in, is_openly, IsOpenAt, at_register, no_numbers}
use Rattle.c62_depend.specs.declared.register_users.RegisterUsers.{RegisterUsers}
use Rattle.c62_depend.proofs.Latencies.{insn_at}
use Rattle.c62_depend.proofs.WrittenLemmas.{writes_are}
use Rattle.c62_depend.specs.declared.number_set.NumberSet.{NumberSet}
use Rattle.c62_depend.specs.NumberSet.{number_in}
use Rattle.c62_depend.proofs.SetLoops.{AreChanged, changed_in, changed_not}

-- number k is added, to what stays
abbrev pub IsNoted : ℕ → Bool → NumberSet → NumberSet → Type 0
IsNoted k clears old new = (other : ℕ) → number_in new other ≡ ((not clears && number_in old other) || (other == k))

pub noted_at : (old new : List NumberSet) (set : RegSet) (at rest k : ℕ) (clears : Bool) → 0 ≡ rest
    → AreChanged (IsNoted k clears) old new no_numbers set.bits at rest
    → (reg : Reg) (other : ℕ) → number_in (at_register new reg) other
    ≡ (if reg_in set reg then (not clears && number_in (at_register old reg) other) || (other == k) else number_in
    (at_register old reg) other)
noted_at old new set at rest k clears none are reg other = by_test (reg_in set reg) refl
  where
    by_test : (t : Bool) → reg_in set reg ≡ t → number_in (at_register new reg) other
        ≡ (if t then (not clears && number_in (at_register old reg) other) || (other == k) else number_in
        (at_register old reg) other)
    by_test true is = changed_in (IsNoted k clears) old new no_numbers set at rest reg none are is other
    by_test false is = ap (λ (s : NumberSet). number_in s other)
        (changed_not (IsNoted k clears) old new no_numbers set at rest reg none are is)

-- ---- an instruction more

-- what depends on the next instruction, of those before it, stays open unless that always writes the register
open_more : (block : List Insn) (k j : ℕ) (reg : Reg) → k < j
    → is_open block k (j + 1) reg ≡ (is_open block k j reg && not (always_writes reg (slice_get block j)))
open_more block k j reg before =
    let count : j + 1 - (k + 1) ≡ suc (j - (k + 1)) = omega arith in
    let place : k + 1 + (j - (k + 1)) ≡ j = omega arith in
    rw (count, place) (of_two (is_settled_by block (k + 1) (j - (k + 1)) reg) (always_writes reg (slice_get block j)))
  where
    of_two : (a b : Bool) → not (a || b) ≡ (not a && not b)
    of_two true b = refl
    of_two false b = refl

open_last : (block : List Insn) (j : ℕ) (reg : Reg) → is_open block j (j + 1) reg ≡ true
open_last block j reg = let none : j + 1 - (j + 1) ≡ 0 = omega arith in rw none refl

-- the numbers at a register, with number j
module _ (so : Reg → Option Insn → Bool) (block : List Insn) (j k : ℕ) (reg : Reg) (always old new : Bool) where
  -- j uses the register so
  pub noted_more : so reg (slice_get block j) ≡ true → always_writes reg (slice_get block j) ≡ always
      → old ≡ is_openly so block j reg k → new ≡ ((not always && old) || (k == j))
      → new ≡ is_openly so block (j + 1) reg k
  noted_more uses writes was is = elim (cases_lt k j) [
    | inl before ↦ rw (is, was, open_more block k j reg before, writes)
        (below (so reg (slice_get block k)) (is_open block k j reg) always before)
    | inr behind ↦ elim (cases_eq k j) [
      | inl here ↦ rw (is, here, uses, open_last block j reg) (grind (arith, nat_tests))
      | inr past ↦ rw (is, was) (grind (arith, nat_tests))
    ]
  ]
    where
      below : (u o a : Bool) → k < j
          → ((not a && (nat_lt k j && (u && o))) || (k == j)) ≡ (nat_lt k (j + 1) && (u && (o && not a)))
      below u o true before = grind (arith, nat_tests)
      below u o false before = grind (arith, nat_tests)

  -- it doesn't
  pub unnoted_more : so reg (slice_get block j) ≡ false → always_writes reg (slice_get block j) ≡ false
      → old ≡ is_openly so block j reg k
      → new ≡ old → new ≡ is_openly so block (j + 1) reg k
  unnoted_more unused unwritten was is = elim (cases_lt k j) [
    | inl before ↦ rw (is, was, open_more block k j reg before, unwritten)
        (below (so reg (slice_get block k)) (is_open block k j reg) before)
    | inr behind ↦ elim (cases_eq k j) [
      | inl here ↦ rw (is, was, here, unused) (grind (arith, nat_tests))
      | inr past ↦ rw (is, was) (grind (arith, nat_tests))
    ]
  ]
    where
      below : (u o : Bool) → k < j → (nat_lt k j && (u && o)) ≡ (nat_lt k (j + 1) && (u && (o && true)))
      below u o before = grind (arith, nat_tests)

-- ---- both tables

added_writers : (uses : List Uses) (j : ℕ) (u : Uses) (always : Bool) (old new : List NumberSet) → j < length uses
    → u ≡ get_or uses j u
    → always ≡ is_none (cond_of u.insn)
    → ((reg : Reg) (k : ℕ) → number_in (at_register new reg) k
    ≡ (if reg_in u.written reg then (not always && number_in (at_register old reg) k) || (k == j) else number_in
    (at_register old reg) k))
    → ((reg : Reg) (k : ℕ) → number_in (at_register old reg) k ≡ is_openly writes_in (insns_in uses) j reg k)
    → (reg : Reg) (k : ℕ) → number_in (at_register new reg) k ≡ is_openly writes_in (insns_in uses) (j + 1) reg k
added_writers uses j u always old new within at free noted were reg k = by_test (reg_in u.written reg) refl
  where
    here : slice_get (insns_in uses) j ≡ Some u.insn
    here = insn_at uses j u within at

    by_test : (t : Bool) → reg_in u.written reg ≡ t
        → number_in (at_register new reg) k ≡ is_openly writes_in (insns_in uses) (j + 1) reg k
    by_test true is =
        let writes : writes_in reg (Some u.insn) ≡ true = sym (writes_are u reg) ∙ is in
        noted_more writes_in (insns_in uses) j k reg always (number_in (at_register old reg) k)
        (number_in (at_register new reg) k)
        (ap (writes_in reg) here ∙ writes) (ap (always_writes reg) here
        ∙ rw (writes, ← free) (grind (arith, nat_tests))) (were reg k)
        (noted reg k ∙ rw is refl)
    by_test false is =
        let writes : writes_in reg (Some u.insn) ≡ false = sym (writes_are u reg) ∙ is in
        unnoted_more writes_in (insns_in uses) j k reg always (number_in (at_register old reg) k)
        (number_in (at_register new reg) k)
        (ap (writes_in reg) here ∙ writes) (ap (always_writes reg) here
        ∙ rw (writes, ← free) (grind (arith, nat_tests))) (were reg k)
        (noted reg k ∙ rw is refl)

added_users : (uses : List Uses) (j : ℕ) (u : Uses) (always : Bool) (old half new : List NumberSet) → j < length uses
    → u ≡ get_or uses j u
    → always ≡ is_none (cond_of u.insn)
    → ((reg : Reg) (k : ℕ) → number_in (at_register half reg) k
    ≡ (if reg_in u.written reg then (not always && number_in (at_register old reg) k) || (k == j) else number_in
    (at_register old reg) k))
    → ((reg : Reg) (k : ℕ) → number_in (at_register new reg) k
    ≡ (if reg_in u.reads reg then (not false && number_in (at_register half reg) k) || (k == j) else number_in
    (at_register half reg) k))
    → ((reg : Reg) (k : ℕ) → number_in (at_register old reg) k ≡ is_openly uses_in (insns_in uses) j reg k)
    → (reg : Reg) (k : ℕ) → number_in (at_register new reg) k ≡ is_openly uses_in (insns_in uses) (j + 1) reg k
added_users uses j u always old half new within at free written read were reg k = by_test (reg_in u.written reg)
    (reg_in u.reads reg) refl refl
  where
    here : slice_get (insns_in uses) j ≡ Some u.insn
    here = insn_at uses j u within at

    before : Bool
    before = number_in (at_register old reg) k

    by_test : (w r : Bool) → reg_in u.written reg ≡ w → reg_in u.reads reg ≡ r
        → number_in (at_register new reg) k ≡ is_openly uses_in (insns_in uses) (j + 1) reg k
    by_test true r is reads =
        let writes : writes_in reg (Some u.insn) ≡ true = sym (writes_are u reg) ∙ is in
        noted_more uses_in (insns_in uses) j k reg always before (number_in (at_register new reg) k)
        (ap (uses_in reg) here ∙ or_right (reads_register u.insn reg) (writes_in reg (Some u.insn)) writes)
        (ap (always_writes reg) here ∙ rw (writes, ← free) (grind (arith, nat_tests))) (were reg k)
        (read reg k ∙ rw (reads, written reg k, is) (again r (not always && before) (k == j)))
      where
        again : (r a b : Bool) → (if r then ((a || b) || b) else (a || b)) ≡ (a || b)
        again r a b = grind (arith, nat_tests)
    by_test false true is reads =
        let writes : writes_in reg (Some u.insn) ≡ false = sym (writes_are u reg) ∙ is in
        noted_more uses_in (insns_in uses) j k reg false before (number_in (at_register new reg) k)
        (ap (uses_in reg) here
        ∙ or_left (reads_register u.insn reg) (writes_in reg (Some u.insn)) (sym (u.reads_are reg) ∙ reads))
        (ap (always_writes reg) here ∙ rw writes (grind (arith, nat_tests))) (were reg k)
        (read reg k ∙ rw (reads, written reg k, is) refl)
    by_test false false is reads =
        let writes : writes_in reg (Some u.insn) ≡ false = sym (writes_are u reg) ∙ is in
        unnoted_more uses_in (insns_in uses) j k reg false before (number_in (at_register new reg) k)
        (ap (uses_in reg) here ∙ rw (← u.reads_are reg, reads, writes) refl)
        (ap (always_writes reg) here ∙ rw writes (grind (arith, nat_tests))) (were reg k)
        (read reg k ∙ rw (reads, written reg k, is) refl)

pub users_more : (uses : List Uses) (j : ℕ) (u : Uses) (always : Bool) (old new : RegisterUsers) (half : List NumberSet)
    → j < length uses
    → u ≡ get_or uses j u → always ≡ is_none (cond_of u.insn)
    → ((reg : Reg) (k : ℕ) → number_in (at_register new.writers reg) k
    ≡ (if reg_in u.written reg then (not always && number_in (at_register old.writers reg) k) || (k == j) else number_in
    (at_register old.writers reg) k))
    → ((reg : Reg) (k : ℕ) → number_in (at_register half reg) k
    ≡ (if reg_in u.written reg then (not always && number_in (at_register old.users reg) k) || (k == j) else number_in
    (at_register old.users reg) k))
    → ((reg : Reg) (k : ℕ) → number_in (at_register new.users reg) k
    ≡ (if reg_in u.reads reg then (not false && number_in (at_register half reg) k) || (k == j) else number_in
    (at_register half reg) k))
    → IsOpenAt uses j old → IsOpenAt uses (j + 1) new
users_more uses j u always old new half within at free writers written read are = record {
  writers = added_writers uses j u always old.writers new.writers within at free writers are.writers;
  users = added_users uses j u always old.users half new.users within at free written read are.users;
}

-- before the first instruction
pub users_none : (uses : List Uses) (one other : NumberSet) → ((k : ℕ) → number_in one k ≡ false)
    → ((k : ℕ) → number_in other k ≡ false)
    → IsOpenAt uses 0 (record { writers = replicate 32 one; users = replicate 32 other })
users_none uses one other first second = record {
  writers = λ reg k. none_at 32 (register_index reg) one k (first k) ∙ none_before k _;
  users = λ reg k. none_at 32 (register_index reg) other k (second k) ∙ none_before k _;
}
  where
    none_before : (k : ℕ) (b : Bool) → false ≡ (nat_lt k 0 && b)
    none_before k b = grind (arith, nat_tests)

    none_at : (n index : ℕ) (set : NumberSet) (k : ℕ) → number_in set k ≡ false
        → number_in (get_or (replicate n set) index no_numbers) k ≡ false
    none_at zero index set k none = none_in 4 k
    none_at (suc n) zero set k none = none
    none_at (suc n) (suc index) set k none = none_at n index set k none
