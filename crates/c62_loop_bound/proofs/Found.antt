-- What is found of two instructions of three iterations is a dependence.
use Rattle.std.proofs.Common.{arith, Bool, true, false, not, ◌&&◌, ◌||◌, ◌≡◌, ℕ, zero, suc, ◌+◌, ◌*◌, ◌/◌, ◌%◌}
use Rattle.std.proofs.Common.{◌<◌, ◌≤◌}
use Rattle.std.proofs.Common.{ℤ, List, ◌++◌, length, Option, Some, refl, sym, ap, ◌∙◌, subst, inl, inr}
use Rattle.std.proofs.Common.{⊎_elim}
use Rattle.std.specs.Prelude.{nat_lt, slice_get}
use Rattle.std.proofs.Math.Nat.{mul-le-mul_left, div-add-mod, mod-lt}
use Rattle.std.proofs.lemmas.Bool.{cases_lt, and_parts, or_cases, not-true, false≢true, lt-ltb}
use Rattle.std.proofs.lemmas.List.{append_assoc, append-nil, length-append, length-map, map-append}
use Rattle.c62_op.specs.Shape.{is_load, is_store, is_branch}
use Rattle.c62_op.specs.Takes.{same_reg}
use Rattle.c62_op.proofs.Registers.{same_reg-is}
use Rattle.c62_insn.specs.declared.insn.Insn.{Insn}
use Rattle.c62_insn.specs.Insn.{op_of, cond_of, reads_register}
use Rattle.c62_rules.specs.Dependence.{IsBound, are_exclusive, are_disjoint}
use Rattle.c62_rules.specs.Dependence.IsBound.{ReadAfterWrite, WriteAfterRead, WriteAfterWrite, AfterStore}
use Rattle.c62_rules.specs.Dependence.IsBound.{StoreAfterLoad}
use Rattle.c62_pair.specs.declared.uses.Uses.{Uses}
use Rattle.c62_pair.specs.declared.reg_set.RegSet.{RegSet}
use Rattle.c62_pair.specs.Uses.{insns_in}
use Rattle.c62_depend.specs.Latency.{latency_of}
use Rattle.c62_depend.proofs.Latencies.{By, all-greatest, some_under}
unfoldable use Rattle.c62_depend.proofs.Latencies.{ByRegisters}
use Rattle.c62_depend.proofs.Greatest.{IsGreatest}
use Rattle.c62_meaning.specs.Instances.{IsOfData, IsOfMemory, DataBounds}
use Rattle.c62_loop.specs.Stage.{insns_of, begin_of}
use Rattle.c62_loop_match.specs.declared.promise.Promise.{Promise}
use Rattle.c62_loop_match.specs.Promise.{promises}
use Rattle.c62_loop_match.specs.Distances.{exclusive_under, disjoint_under}
use Rattle.c62_loop_match.proofs.Written.{AreWritten}
use Rattle.c62_loop_match.proofs.Excuses.{excuses}
use Rattle.c62_loop_bound.specs.Circle.{alone, IsDependence}
use Rattle.c62_loop_bound.specs.Steps.{IsThrice}
use Rattle.c62_loop_bound.proofs.Paths.{begin_is}

-- ---- bounds

neither : (a b : Bool) → (a || b) ≡ false → (a ≡ false) × (b ≡ false)
neither false false h = (refl, refl)
neither false true h = absurd (false≢true (sym h))
neither true b h = absurd (false≢true (sym h))

-- a bound of registers or memory, which is asked of memory only where that isn't excused
Asked : List Insn → ℕ → ℕ → Bool → Insn → Insn → ℤ → Type 0
Asked block i j excused p q b = (applies : IsBound block i j p q b) × IsOfData applies
    × (IsOfMemory applies → excused ≡ false)

from_case : (block : List Insn) (i j : ℕ) (excused : Bool) (p q : Insn) (b : ℤ)
    → By (are_exclusive block i j) (are_disjoint block i j || excused) p q b → is_branch (op_of q) ≡ false
    → Asked block i j excused p q b
unfolding Asked ByRegisters
from_case block i j excused p q b (inl (inl ((reg, d), w, e))) straight =
    let u = some_under (reads_register q reg) _ b e in (ReadAfterWrite reg d w u.0 u.1, tt, λ memory. absurd memory)
from_case block i j excused p q b (inl (inr (inl ((reg, d), w, e)))) straight =
    let u = some_under (reads_register p reg) _ b e in (WriteAfterRead reg d w u.0 u.1, tt, λ memory. absurd memory)
from_case block i j excused p q b (inl (inr (inr (free, ((reg, d), one, ((other, f), two, e)))))) straight =
    let u = some_under (same_reg reg other) _ b e in
    (WriteAfterWrite reg d f one (rw (same_reg-is reg other u.0) two) free u.1, tt, λ memory. absurd memory)
from_case block i j excused p q b (inr (inl e)) straight =
    let u = some_under (not (are_disjoint block i j || excused) &&
    (is_store (op_of p) && (is_load (op_of q) || is_store (op_of q)))) _ b e in
    let free = and_parts _ _ u.0 in
    let store = and_parts _ _ free.1 in
    let none = neither (are_disjoint block i j) excused (not-true _ free.0) in
    (AfterStore store.0 (or_cases _ _ store.1) none.0 u.1, tt, λ memory. none.1)
from_case block i j excused p q b (inr (inr (inl e))) straight =
    let u = some_under (not (are_disjoint block i j || excused) && (is_load (op_of p) && is_store (op_of q))) _ b e in
    let free = and_parts _ _ u.0 in
    let load = and_parts _ _ free.1 in
    let none = neither (are_disjoint block i j) excused (not-true _ free.0) in
    (StoreAfterLoad load.0 load.1 none.0 u.1, tt, λ memory. none.1)
from_case block i j excused p q b (inr (inr (inr e))) straight =
    let u = some_under (is_branch (op_of q)) _ b e in absurd (false≢true (sym straight ∙ u.0))

attained : (P : ℤ → Type 0) (o : Option ℤ) (b : ℤ) → IsGreatest P o → o ≡ Some b → P b
attained P o b greatest is = (subst (λ x. IsGreatest P x) is greatest).0

asked_by : (block : List Insn) (i j : ℕ) (excused : Bool) (p q : Insn) (b : ℤ)
    → latency_of (are_exclusive block i j) (are_disjoint block i j || excused) p q ≡ Some b
    → is_branch (op_of q) ≡ false → Asked block i j excused p q b
asked_by block i j excused p q b is straight =
    from_case block i j excused p q b
    (attained (By (are_exclusive block i j) (are_disjoint block i j || excused) p q)
    (latency_of (are_exclusive block i j) (are_disjoint block i j || excused) p q) b
    (all-greatest p q (are_exclusive block i j) (are_disjoint block i j || excused)) is) straight

none_apart : (apart : ℕ) (kept : Bool) → (nat_lt 0 apart && kept) ≡ false → kept ≡ true → apart ≡ 0
none_apart zero kept h t = refl
none_apart (suc apart) kept h t =
    let some : nat_lt 0 (suc apart) ≡ true = lt-ltb 0 (suc apart) (omega arith) in
    absurd (false≢true (sym h ∙ ap (λ b. nat_lt 0 (suc apart) && b) t ∙ ap (λ b. b && true) some))

-- ---- three iterations

thrice_is : (work path : List Uses) → IsThrice work path → insns_in path ≡ insns_of (alone (insns_in work)) 3
thrice_is work path is =
    ap insns_in is ∙ map-append (λ (u : Uses). u.insn) (work ++ work) work
    ∙ ap (λ xs. xs ++ insns_in work) (map-append (λ (u : Uses). u.insn) work work)
    ∙ append_assoc (insns_in work) (insns_in work) (insns_in work)
    ∙ ap (λ xs. insns_in work ++ (insns_in work ++ xs)) (sym (append-nil (insns_in work)))

module _ (promise : Promise) (work path : List Uses) (thrice : IsThrice work path) (count i j : ℕ)
    (long : length path ≡ 3 * count) (before : i < j) (within : j < length path) (inside : i < count) where
  abbrev body : List Insn
  body = insns_in work

  size : length body ≡ count
  size =
      let a : length body ≡ length work = length-map work (λ (u : Uses). u.insn) in
      let b : length path ≡ length (work ++ work) + length work = ap length thrice
      ∙ length-append (work ++ work) work in
      let c : length (work ++ work) ≡ length work + length work = length-append work work in
      omega (arith, a, b, c, long)

  parts : count * (j / count) + j % count ≡ j
  parts = div-add-mod j count

  near : j / count < 3
  near =
      ⊎_elim {C = j / count < 3} (λ (l : j / count < 3). l)
      (λ (l : 3 ≤ j / count). let more : count * 3 ≤ count * (j / count) = mul-le-mul_left count l in
      let split : count * (j / count) + j % count ≡ j = parts in
      absurd (omega (arith, more, split, within, long)))
      (cases_lt (j / count) 3)

  at : begin_of (alone body) (j / count) + j % count ≡ j
  at =
      let a : begin_of (alone body) (j / count) ≡ 0 + length body * (j / count) = begin_is (alone body) (j / count) in
      let b : length body * (j / count) ≡ count * (j / count) = ap (λ n. n * (j / count)) size in
      let split : count * (j / count) + j % count ≡ j = parts in
      omega (arith, a, b, split)

  small : j % count < length body
  small = let l : j % count < count = mod-lt j (omega (arith, inside)) in omega (arith, l, size)

  -- the number of the later one, as its iteration has it
  Found : ℕ → Insn → Insn → ℤ → Bool → Type 0
  Found n p q latency excused = (asked : DataBounds (insns_of (alone body) 3) i n latency)
      × (IsOfMemory asked.bounds.applies → excused ≡ false) × (asked.bounds.first ≡ p) × (asked.bounds.second ≡ q)

  found_at : (p q : Insn) (latency : ℤ) (excused : Bool) → slice_get (insns_of (alone body) 3) i ≡ Some p
      → slice_get (insns_of (alone body) 3) j ≡ Some q → Asked (insns_of (alone body) 3) i j excused p q latency
      → Found j p q latency excused
  unfolding Asked Found
  found_at p q latency excused at_p at_q asked = (
    record {
      bounds = record
          { first = p; second = q; is_first = at_p; is_second = at_q; before = before; applies = asked.0 };
      of_data = asked.1;
    },
    asked.2,
    refl,
    refl,
  )

  -- what is found of the two is a dependence
  pub found_is : (written : RegSet) (u v : Uses) (latency : ℤ) (excused : Bool) → AreWritten path written i j
      → slice_get (insns_in path) i ≡ Some u.insn → slice_get (insns_in path) j ≡ Some v.insn
      → is_branch (op_of v.insn) ≡ false
      → excused ≡ (nat_lt 0 (j / count) && promises promise u.insn v.insn)
      → latency_of (exclusive_under written (cond_of u.insn) (cond_of v.insn))
      (disjoint_under written u.covered v.covered || excused) u.insn v.insn ≡ Some latency
      → IsDependence (promises promise) body (record { from = i; to = j % count; apart = j / count; latency = latency })
  unfolding Found
  found_is written u v latency excused are at_u at_v straight is_excused is =
      let told = excuses path written i j u v are at_u at_v in
      let same : latency_of (are_exclusive (insns_in path) i j) (are_disjoint (insns_in path) i j || excused) u.insn
      v.insn ≡ Some latency
      = sym (ap (λ x. latency_of x (disjoint_under written u.covered v.covered || excused) u.insn v.insn) told.0
      ∙ ap (λ x. latency_of (are_exclusive (insns_in path) i j) (x || excused) u.insn v.insn) told.1) ∙ is in
      let three : insns_in path ≡ insns_of (alone body) 3 = thrice_is work path thrice in
      let asked = asked_by (insns_of (alone body) 3) i j excused u.insn v.insn latency
      (subst (λ xs. latency_of (are_exclusive xs i j) (are_disjoint xs i j || excused) u.insn v.insn ≡ Some
      latency) three same) straight in
      let found : Found j u.insn v.insn latency excused
      = found_at u.insn v.insn latency excused (subst (λ xs. slice_get xs i ≡ Some u.insn) three at_u)
      (subst (λ xs. slice_get xs j ≡ Some v.insn) three at_v) asked in
      let there : Found (begin_of (alone body) (j / count) + j % count) u.insn v.insn latency excused
      = subst (λ n. Found n u.insn v.insn latency excused) (sym at) found in
      record {
        near = near;
        from = omega (arith, inside, size);
        to = small;
        asked = there.0;
        needed = λ memory kept. none_apart (j / count) (promises promise u.insn v.insn) (sym is_excused
            ∙ there.1 memory)
            (subst (λ q. promises promise u.insn q ≡ true) there.3
            (subst (λ p. promises promise p there.0.bounds.second ≡ true) there.2 kept));
      }
