-- What is kept keeps each bound that is asked.
use Rattle.std.proofs.Common.{◌≡◌, ℕ, ◌<◌, ℤ, pos, ◌+ℤ◌, ◌≤ℤ◌, Bool, true, false, ◌&&◌, ◌||◌, cond, List, length, map}
use Rattle.std.proofs.Common.{Option, Some, None, refl, sym, ◌∙◌, ap, subst, ◌⊎◌, inl, inr, arith}
use Rattle.std.specs.Prelude.{nat_lt, slice_get, option_map}
use Rattle.std.proofs.lemmas.Bool.{and_parts, ltb-true}
use Rattle.std.proofs.lemmas.Bool.Decides.{nat_tests}
use Rattle.std.proofs.lemmas.Int.{ints}
use Rattle.std.proofs.lemmas.Option.{slice_get_within, slice_get-map}
use Rattle.c62_op.specs.Shape.{is_load, is_store}
use Rattle.c62_insn.specs.declared.insn.Insn.{Insn}
use Rattle.c62_insn.specs.Insn.{op_of, reads_register}
use Rattle.c62_rules.specs.Dependence.{IsBound, are_exclusive, are_disjoint}
use Rattle.c62_rules.specs.Dependence.IsBound.{ReadAfterWrite, WriteAfterRead, WriteAfterWrite, AfterStore}
use Rattle.c62_rules.specs.Dependence.IsBound.{StoreAfterLoad, BeforeBranch}
use Rattle.c62_depend.specs.Latency.{latency_of, access_after_store, store_after_load}
use Rattle.c62_depend.proofs.Latencies.{By, all-greatest, under}
unfoldable use Rattle.c62_depend.proofs.Latencies.{ByRegisters}
use Rattle.c62_depend.proofs.Greatest.{IsGreatest}
use Rattle.c62_depend.proofs.Common.{same_reg-refl}
use Rattle.c62_op.specs.Takes.{same_reg}
use Rattle.c62_packet.specs.declared.placed.Placed.{Placed}
use Rattle.c62_loop.specs.Stage.{Straights, insns_of, KeepDistances}
use Rattle.c62_meaning.specs.Instances.{IsOfMemory, IsOfData}
use Rattle.c62_loop_match.specs.Path.{instance}
use Rattle.c62_loop_match.specs.Distances.{IsKept, KeepsParted}
use Rattle.c62_loop_match.proofs.InParts.{parts_parted}

stores_first : (d : Bool) (p q : Insn) (b : ℤ) → d ≡ false → is_store (op_of p) ≡ true → (is_load (op_of q) ≡ true)
    ⊎ (is_store (op_of q) ≡ true) → b ≡ pos 1 → access_after_store d p q ≡ Some b
stores_first d p q b free store access e = rw (free, store, e) (by_access access)
  where
    by_access : (is_load (op_of q) ≡ true) ⊎ (is_store (op_of q) ≡ true)
        → cond (is_load (op_of q) || is_store (op_of q)) (Some (pos 1)) None ≡ Some (pos 1)
    by_access (inl l) = rw l refl
    by_access (inr s) = grind (arith, nat_tests)

loads_first : (d : Bool) (p q : Insn) (b : ℤ) → d ≡ false → is_load (op_of p) ≡ true → is_store (op_of q) ≡ true
    → b ≡ pos 0 → store_after_load d p q ≡ Some b
loads_first d p q b free load store e = rw (free, load, store, e) refl

-- each bound that is asked is one of the cases, where those of memory are not asked that are excused
cases_asked : (block : List Insn) (i j : ℕ) (excused : Bool) (p q : Insn) (b : ℤ) (applies : IsBound block i j p q b)
    → IsOfData applies → (IsOfMemory applies → excused ≡ true → ⊥)
    → By (are_exclusive block i j) (are_disjoint block i j || excused) p q b
unfolding ByRegisters
cases_asked block i j excused p q b (ReadAfterWrite reg delay writes reads e) of_data asked = inl
    (inl ((reg, delay), writes, under (reads_register q reg) _ b reads e))
cases_asked block i j excused p q b (WriteAfterRead reg delay writes reads e) of_data asked = inl
    (inr (inl ((reg, delay), writes, under (reads_register p reg) _ b reads e)))
cases_asked block i j excused p q b (WriteAfterWrite reg first second one other free e) of_data asked =
    inl (inr (inr (
      free,
      (
        (reg, first),
        one,
        ((reg, second), other, under (same_reg reg reg) _ b (same_reg-refl reg) e),
      ),
    )))
cases_asked block i j excused p q b (AfterStore store access free e) of_data asked = inr
    (inl (stores_first (are_disjoint block i j || excused) p q b (none excused refl) store access e))
  where
    none : (x : Bool) → excused ≡ x → (are_disjoint block i j || excused) ≡ false
    none true is = absurd (asked tt is)
    none false is = ap (λ t. t || excused) free ∙ is
cases_asked block i j excused p q b (StoreAfterLoad load store free e) of_data asked = inr
    (inr (inl (loads_first (are_disjoint block i j || excused) p q b (none excused refl) load store e)))
  where
    none : (x : Bool) → excused ≡ x → (are_disjoint block i j || excused) ≡ false
    none true is = absurd (asked tt is)
    none false is = ap (λ t. t || excused) free ∙ is
cases_asked block i j excused p q b (BeforeBranch is e) of_data asked = absurd of_data

-- what is kept keeps each bound that is asked
pub bound_kept : (exclusive disjoint : Bool) (p q : Insn) (b : ℤ) (c d : ℕ)
    → IsKept (latency_of exclusive disjoint p q) c d → By exclusive disjoint p q b → (pos c +ℤ b) ≤ℤ pos d
bound_kept exclusive disjoint p q b c d kept by = of_greatest (latency_of exclusive disjoint p q) refl
    (all-greatest p q exclusive disjoint)
  where
    of_greatest : (o : Option ℤ) → latency_of exclusive disjoint p q ≡ o → IsGreatest (By exclusive disjoint p q) o
        → (pos c +ℤ b) ≤ℤ pos d
    of_greatest None is none = absurd (none b by)
    of_greatest (Some m) is most =
        let fits : (pos c +ℤ m) ≤ℤ pos d = kept m is in
        let less : b ≤ℤ m = most.1 b by in
        omega (arith, ints, fits, less)

-- so all distances are kept
pub all_kept : (promised : Insn → Insn
    → Bool) (straights : Straights) (trips : ℕ) (path : List Insn) (placed : List Placed)
    → path ≡ insns_of straights trips
    → ((i j : ℕ) → i < j → j < length path → KeepsParted promised straights trips path (map instance placed) i j)
    → length placed ≡ length path → KeepDistances promised straights trips placed
all_kept promised straights trips path placed is keeps count i j p q b at_p at_q asked needed =
    let within : j < length placed = slice_get_within placed j q at_q in
    let found : KeepsParted promised straights trips path (map instance placed) i j = keeps i j asked.bounds.before
    (omega arith) in
    let first : slice_get path i ≡ Some asked.bounds.first = ap (λ xs. slice_get xs i) is ∙ asked.bounds.is_first in
    let second : slice_get path j ≡ Some asked.bounds.second = ap (λ xs. slice_get xs j) is ∙ asked.bounds.is_second in
    let kept = found.keeps asked.bounds.first asked.bounds.second (instance p) (instance q) first second
    (instance_at i p at_p) (instance_at j q at_q) in
    bound_kept (are_exclusive path i j)
    (are_disjoint path i j || (nat_lt found.from found.to && promised asked.bounds.first asked.bounds.second))
    asked.bounds.first asked.bounds.second b p.cycle q.cycle kept
    (subst (λ xs. By (are_exclusive xs i j)
    (are_disjoint xs i j || (nat_lt found.from found.to && promised asked.bounds.first asked.bounds.second))
    asked.bounds.first asked.bounds.second b) (sym is)
    (cases_asked (insns_of straights trips) i j
    (nat_lt found.from found.to && promised asked.bounds.first asked.bounds.second) asked.bounds.first
    asked.bounds.second b asked.bounds.applies asked.of_data
    (λ memory excused. (let parts = and_parts (nat_lt found.from found.to)
    (promised asked.bounds.first asked.bounds.second) excused in
    needed memory parts.1
    (parts_parted straights trips i j found.from found.to found.first found.second
    (ltb-true found.from found.to parts.0))))))
  where
    instance_at : (k : ℕ) (x : Placed) → slice_get placed k ≡ Some x
        → slice_get (map instance placed) k ≡ Some (instance x)
    instance_at k x at = slice_get-map instance placed k ∙ ap (λ o. option_map instance o) at
