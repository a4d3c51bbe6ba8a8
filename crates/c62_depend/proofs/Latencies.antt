-- The latency from one instruction to another is the greatest of the bounds between them.
use Rattle.c62_depend.proofs.Common.{same_Some, none-some, slice_get_read, slice_get-map, length-map, length, get_or}
use Rattle.c62_depend.proofs.Common.{arith, ◌≡◌, ℕ, ◌<◌, ℤ, pos}
use Rattle.c62_depend.proofs.Common.{negsuc, ◌≤◌, ◌-ℤ◌, ◌≤ℤ◌, Bool, true, false, List, Option, Some, None, refl, sym}
use Rattle.c62_depend.proofs.Common.{◌∙◌, inl, inr, ◌⊎◌, cond}
use Rattle.c62_depend.proofs.Common.{IfSome, IsTrue, is_some, ◌↔◌, Contains, slice_get, nat_lt, ◌&&◌, ◌||◌, not}
use Rattle.c62_depend.proofs.Common.{and_parts, or_cases, not-true}
use Rattle.c62_depend.proofs.Common.{cases_Bool, both_ways, lt-ltb, le-ltb, ltb-true, Reg, Op, Insn, same_reg, ints}
use Rattle.c62_depend.proofs.Common.{nat_tests, same_reg-is}
use Rattle.c62_depend.proofs.Common.{same_reg-refl, delay_of, is_load, is_store, is_branch, op_of, register_writes}
use Rattle.c62_depend.proofs.Common.{reads_register, IsBound}
use Rattle.c62_depend.proofs.Common.{ReadAfterWrite, WriteAfterRead, WriteAfterWrite, AfterStore, StoreAfterLoad}
use Rattle.c62_depend.proofs.Common.{BeforeBranch, Bounds, Depends}
use Rattle.c62_depend.proofs.Common.{IsLatency, are_exclusive, are_disjoint, Uses, insns_in, awaits, spares, overwrites}
use Rattle.c62_depend.proofs.Common.{read_after_write}
use Rattle.c62_depend.proofs.Common.{write_after_read, write_after_write, access_after_store, store_after_load}
use Rattle.c62_depend.proofs.Common.{before_branch, by_registers, by_order}
use Rattle.c62_depend.proofs.Common.{latency_of, between, latency, greatest_by}
use Rattle.std.proofs.lemmas.Bool.{cond-true}
use Rattle.c62_depend.proofs.Common.{ap}
use Rattle.c62_insn.proofs.InsnLemmas.{writes_delay}
use Rattle.c62_depend.proofs.Greatest.{IsGreatest, IsGiven, IsGreatest-is, IsGreatest-same, IsGreatest-greater}
use Rattle.c62_depend.proofs.Greatest.{IsGreatest-greatest_by}
use Rattle.c62_depend.proofs.Greatest.{IsGreatest-over}

-- a number that is given under a test
pub some_under : {A : Type 0} (t : Bool) (x y : A) → cond t (Some x) None ≡ Some y → (t ≡ true) × (y ≡ x)
some_under true x y e = (refl, cc)
some_under false x y e = cc

pub under : {A : Type 0} (t : Bool) (x y : A) → t ≡ true → y ≡ x → cond t (Some x) None ≡ Some y
under t x y h e = rw (h, e) refl

pub at_most : (t : Bool) (x b most : ℤ) → cond t (Some x) None ≡ Some b → x ≤ℤ most → b ≤ℤ most
at_most t x b most e low = let is : b ≡ x = (some_under t x b e).1 in omega (arith, ints)

-- ---- the bounds of the six cases

abbrev pub ByRead : Insn → Insn → ℤ → Type 0
ByRead p q b = IsGiven (awaits q) (register_writes p) b

abbrev pub BySpared : Insn → Insn → ℤ → Type 0
BySpared p q b = IsGiven (spares p) (register_writes q) b

abbrev pub ByWrites : Insn → Insn → ℤ → Type 0
ByWrites p q b = (v : Reg × ℕ) × Contains (register_writes p) v × IsGiven (overwrites v) (register_writes q) b

abbrev pub ByWritesUnless : Bool → Insn → Insn → ℤ → Type 0
ByWritesUnless exclusive p q b = (exclusive ≡ false) × ByWrites p q b

-- of the cases of registers, and of the others
unfoldable pub ByRegisters : Bool → Insn → Insn → ℤ → Type 0
ByRegisters exclusive p q b = ByRead p q b ⊎ (BySpared p q b ⊎ ByWritesUnless exclusive p q b)

abbrev pub ByOrder : Bool → Insn → Insn → ℤ → Type 0
ByOrder disjoint p q b = (access_after_store disjoint p q ≡ Some b)
    ⊎ ((store_after_load disjoint p q ≡ Some b) ⊎ (before_branch p q ≡ Some b))

abbrev pub By : Bool → Bool → Insn → Insn → ℤ → Type 0
By exclusive disjoint p q b = ByRegisters exclusive p q b ⊎ ByOrder disjoint p q b

-- ---- each case tells its greatest

module _ (p q : Insn) where
  pub read-greatest : IsGreatest (ByRead p q) (read_after_write p q)
  read-greatest = IsGreatest-greatest_by (awaits q) (register_writes p)

  pub spared-greatest : IsGreatest (BySpared p q) (write_after_read p q)
  spared-greatest = IsGreatest-greatest_by (spares p) (register_writes q)

  pub writes-greatest : IsGreatest (ByWrites p q) (write_after_write false p q)
  writes-greatest =
      IsGreatest-over (λ v. IsGiven (overwrites v) (register_writes q))
      (λ v. greatest_by (overwrites v) (register_writes q)) (register_writes p)
      (λ v. IsGreatest-greatest_by (overwrites v) (register_writes q))

  writes_unless-greatest : (exclusive : Bool)
      → IsGreatest (ByWritesUnless exclusive p q) (write_after_write exclusive p q)
  writes_unless-greatest true = λ b w. (let clash : true ≡ false = w.0 in cc)
  writes_unless-greatest false =
      IsGreatest-same (ByWrites p q) (ByWritesUnless false p q) (write_after_write false p q) writes-greatest
      (λ b w. (refl, w)) (λ b w. w.1)

  registers-greatest : (exclusive : Bool) → IsGreatest (ByRegisters exclusive p q) (by_registers exclusive p q)
  unfolding by_registers ByRegisters
  registers-greatest exclusive =
      IsGreatest-greater (ByRead p q) (λ b. BySpared p q b ⊎ ByWritesUnless exclusive p q b) _ _ read-greatest
      (IsGreatest-greater (BySpared p q) (ByWritesUnless exclusive p q) _ _ spared-greatest
      (writes_unless-greatest exclusive))

  order-greatest : (disjoint : Bool) → IsGreatest (ByOrder disjoint p q) (by_order disjoint p q)
  order-greatest disjoint =
      IsGreatest-greater (λ b. access_after_store disjoint p q ≡ Some b)
      (λ b. (store_after_load disjoint p q ≡ Some b) ⊎ (before_branch p q ≡ Some b)) _ _
      (IsGreatest-is (access_after_store disjoint p q))
      (IsGreatest-greater (λ b. store_after_load disjoint p q ≡ Some b) (λ b. before_branch p q ≡ Some b) _ _
      (IsGreatest-is _)
      (IsGreatest-is (before_branch p q)))

  pub all-greatest : (exclusive disjoint : Bool)
      → IsGreatest (By exclusive disjoint p q) (latency_of exclusive disjoint p q)
  all-greatest exclusive disjoint =
      IsGreatest-greater (ByRegisters exclusive p q) (ByOrder disjoint p q) _ _ (registers-greatest exclusive)
      (order-greatest disjoint)

-- ---- the cases are those of the definition

module _ (block : List Insn) (i j : ℕ) (p q : Insn) where
  pub IsCase : ℤ → Type 0
  IsCase b = By (are_exclusive block i j) (are_disjoint block i j) p q b

  pub by_cases : (b : ℤ) → IsBound block i j p q b → IsCase b
  unfolding IsCase ByRegisters
  by_cases b (ReadAfterWrite reg delay writes reads e) = inl
      (inl ((reg, delay), writes, under (reads_register q reg) _ b reads e))
  by_cases b (WriteAfterRead reg delay writes reads e) = inl
      (inr (inl ((reg, delay), writes, under (reads_register p reg) _ b reads e)))
  by_cases b (WriteAfterWrite reg first second one other free e) =
      inl (inr (inr (
        free,
        (
          (reg, first),
          one,
          ((reg, second), other, under (same_reg reg reg) _ b (same_reg-refl reg) e),
        ),
      )))
  by_cases b (AfterStore store access free e) = inr (inl (grind (arith, nat_tests)))
  by_cases b (StoreAfterLoad load store free e) = inr (inr (inl (grind (arith, nat_tests))))
  by_cases b (BeforeBranch is e) = inr (inr (inr (rw (is, e) refl)))

  pub from_cases : (b : ℤ) → IsCase b → IsBound block i j p q b
  unfolding IsCase ByRegisters
  from_cases b (inl (inl ((reg, d), w, e))) = let u = some_under (reads_register q reg) _ b e in ReadAfterWrite reg d w
      u.0 u.1
  from_cases b (inl (inr (inl ((reg, d), w, e)))) = let u = some_under (reads_register p reg) _ b e in WriteAfterRead
      reg d w u.0 u.1
  from_cases b (inl (inr (inr (free, ((reg, d), one, ((other, f), two, e)))))) =
      let u = some_under (same_reg reg other) _ b e in
      WriteAfterWrite reg d f one (rw (same_reg-is reg other u.0) two) free u.1
  from_cases b (inr (inl e)) =
      let u = some_under (not (are_disjoint block i j) &&
      (is_store (op_of p) && (is_load (op_of q) || is_store (op_of q)))) (pos 1) b e in
      let free = and_parts _ _ u.0 in
      let store = and_parts _ _ free.1 in
      AfterStore store.0 (or_cases _ _ store.1) (not-true _ free.0) u.1
  from_cases b (inr (inr (inl e))) =
      let u = some_under (not (are_disjoint block i j) && (is_load (op_of p) && is_store (op_of q))) (pos 0) b e in
      let free = and_parts _ _ u.0 in
      let load = and_parts _ _ free.1 in
      StoreAfterLoad load.0 load.1 (not-true _ free.0) u.1
  from_cases b (inr (inr (inr e))) = let u = some_under (is_branch (op_of q)) (pos (delay_of (op_of p)) -ℤ pos 5) b e in
      BeforeBranch u.0 u.1

  latency_of-greatest : IsGreatest (IsBound block i j p q)
      (latency_of (are_exclusive block i j) (are_disjoint block i j) p q)
  unfolding IsCase
  latency_of-greatest =
      IsGreatest-same IsCase (IsBound block i j p q) (latency_of (are_exclusive block i j) (are_disjoint block i j) p q)
      (all-greatest p q (are_exclusive block i j) (are_disjoint block i j)) from_cases by_cases

-- the bound at two known instructions
bound_at : (block : List Insn) (i j : ℕ) (p q : Insn) (b : ℤ) → slice_get block i ≡ Some p → slice_get block j ≡ Some q
    → Bounds block i j b
    → IsBound block i j p q b
bound_at block i j p q b at_i at_j w =
    rw (same_Some p w.first (sym at_i ∙ w.is_first), same_Some q w.second (sym at_j ∙ w.is_second)) w.applies

latency-from : (block : List Insn) (i j : ℕ) (p q : Insn) (o : Option ℤ) → slice_get block i ≡ Some p
    → slice_get block j ≡ Some q → i < j
    → IsGreatest (IsBound block i j p q) o → IsLatency block i j o
latency-from block i j p q None at_i at_j before g = λ d. g d.0 (bound_at block i j p q d.0 at_i at_j d.1)
latency-from block i j p q (Some m) at_i at_j before g = record {
  applies = record { first = p; second = q; is_first = at_i; is_second = at_j; before = before; applies = g.0 };
  greatest = λ other w. g.1 other (bound_at block i j p q other at_i at_j w);
}

-- the latency function tells the greatest bound, and none where there is none
pub latency-is : (block : List Insn) (i j : ℕ) → IsLatency block i j (latency block i j)
unfolding latency
latency-is block i j = elim (cases_Bool (nat_lt i j)) [
  | inl before ↦ rw before (by_insns (slice_get block i) (slice_get block j) refl refl (ltb-true i j before))
  | inr late ↦ rw late (λ d. both_ways (nat_lt i j) late (lt-ltb i j d.1.before))
]
  where
    by_insns : (o r : Option Insn) → slice_get block i ≡ o → slice_get block j ≡ r → i < j
        → IsLatency block i j (between (are_exclusive block i j) (are_disjoint block i j) o r)
    by_insns None r at_i at_j before = λ d. none-some d.1.first (sym at_i ∙ d.1.is_first)
    by_insns (Some p) None at_i at_j before = λ d. none-some d.1.second (sym at_j ∙ d.1.is_second)
    by_insns (Some p) (Some q) at_i at_j before = latency-from block i j p q _ at_i at_j before
        (latency_of-greatest block i j p q)

pub delay_of-small : (op : Op) → delay_of op ≤ 5
delay_of-small op = grind arith

-- every bound is small
pub bounds-small : (block : List Insn) (i j : ℕ) (b : ℤ) → Bounds block i j b → (negsuc 4 ≤ℤ b) × (b ≤ℤ pos 5)
bounds-small block i j b w = of_case w.first w.second w.applies
  where
    of_case : (p q : Insn) → IsBound block i j p q b → (negsuc 4 ≤ℤ b) × (b ≤ℤ pos 5)
    of_case p q (ReadAfterWrite reg delay writes reads e) = grind (arith, ints, writes_delay p reg delay writes)
    of_case p q (WriteAfterRead reg delay writes reads e) =
        let few = writes_delay q reg delay writes in (omega (arith, ints, few), omega (arith, ints, few))
    of_case p q (WriteAfterWrite reg first second one other free e) =
        let few = writes_delay p reg first one in
        let few_too = writes_delay q reg second other in
        (omega (arith, ints, few, few_too), omega (arith, ints, few, few_too))
    of_case p q (AfterStore store access free e) = (omega (arith, ints), omega (arith, ints))
    of_case p q (StoreAfterLoad load store free e) = (omega (arith, ints), omega (arith, ints))
    of_case p q (BeforeBranch is e) = let few = delay_of-small (op_of p) in
        (omega (arith, ints, few), omega (arith, ints, few))

pub latency-small : (block : List Insn) (i j : ℕ) (o : Option ℤ) → IsLatency block i j o
    → IfSome o (λ m. (negsuc 4 ≤ℤ m) × (m ≤ℤ pos 5))
latency-small block i j None h = tt
latency-small block i j (Some m) h = bounds-small block i j m h.applies

pub many_uses : (uses : List Uses) → length (insns_in uses) ≡ length uses
many_uses uses = length-map uses (λ (one : Uses). one.insn)

-- the instruction of the uses at an index
pub insn_at : (uses : List Uses) (i : ℕ) (u : Uses) → i < length uses → u ≡ get_or uses i u
    → slice_get (insns_in uses) i ≡ Some u.insn
insn_at uses i u within at =
    rw (slice_get-map (λ (one : Uses). one.insn) uses i, slice_get_read uses (length uses) i u refl within at) refl

-- the latency of two instructions of a list
pub latency_at : (uses : List Uses) (i j : ℕ) (u v : Uses) (o : Option ℤ) → i < j → j < length uses
    → u ≡ get_or uses i u → v ≡ get_or uses j v
    → o ≡ latency_of (are_exclusive (insns_in uses) i j) (are_disjoint (insns_in uses) i j) u.insn v.insn
    → o ≡ latency (insns_in uses) i j
unfolding latency
latency_at uses i j u v o before within at_i at_j e =
    let x = are_exclusive (insns_in uses) i j in
    let y = are_disjoint (insns_in uses) i j in
    e ∙ sym (cond-true _ _ _ (lt-ltb i j before)
    ∙ ap (λ (p : Option Insn). between x y p (slice_get (insns_in uses) j)) (insn_at uses i u (omega arith) at_i)
    ∙ ap (λ (q : Option Insn). between x y (Some u.insn) q) (insn_at uses j v within at_j))

pub greatest_from : (block : List Insn) (i j : ℕ) (o : Option ℤ) → o ≡ latency block i j → IsLatency block i j o
greatest_from block i j o e = rw e (latency-is block i j)

pub latency_small_at : (block : List Insn) (i j : ℕ) (o : Option ℤ) → o ≡ latency block i j
    → IfSome o (λ m. (negsuc 4 ≤ℤ m) × (m ≤ℤ pos 5))
latency_small_at block i j o e = latency-small block i j o (greatest_from block i j o e)

pub latency_late : (block : List Insn) (i j : ℕ) → j ≤ i → None ≡ latency block i j
unfolding latency
latency_late block i j late = rw (le-ltb i j late) refl

pub depends_is : (block : List Insn) (i j : ℕ) (o : Option ℤ) (t : Bool) → IsLatency block i j o → t ≡ is_some o
    → IsTrue t ↔ Depends block i j
depends_is block i j None t none e = (λ yes. (let clash : true ≡ false = sym yes ∙ e in cc), λ d. absurd (none d))
depends_is block i j (Some m) t g e = (λ yes. (m, g.applies), λ d. e)
