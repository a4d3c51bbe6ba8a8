-- Sets of numbers gone over from the lowest.
use Rattle.c62_depend.proofs.Common.{◌≡◌, ◌≢◌, ℕ, zero, suc, ◌+◌, ◌-◌, ◌<◌, ◌≤◌, Bool, true, false, List, Option, Some}
use Rattle.c62_depend.proofs.Common.{None, refl, sym, ap, ◌∙◌, arith, inl, inr}
use Rattle.c62_depend.proofs.Common.{◌&&◌, ◌||◌, not, ◌==◌, nat_lt, nat_tests, get_or, length, slice_get, cases_eq}
use Rattle.c62_depend.proofs.Common.{cases_lt, list_any, range_with_len, Insn, Uses, insns_in}
use Rattle.c62_depend.proofs.Common.{both_ways, false_from_ne_true, and_parts, lt-ltb, ltb-true, op_of, is_load}
use Rattle.c62_depend.proofs.Common.{is_store, is_branch, subst}
use Rattle.std.proofs.lemmas.List.Folds.{list_any_at}
use Rattle.std.proofs.lemmas.List.FromFn.{get_or-range_with_len, length-range_with_len}
use Rattle.c62_depend.specs.declared.number_set.NumberSet.{NumberSet}
use Rattle.c62_depend.specs.NumberSet.{number_in, IsLeastFrom}
use Rattle.c62_depend.specs.Direct.{are_ordered, is_branch_in, land_behind, meet_openly, direct_before}
unfoldable use Rattle.c62_depend.specs.Direct.{keep_order, is_passed, binds_beside, is_direct}
use Rattle.c62_depend.specs.Open.{AreOpenly}
use Rattle.c62_depend.specs.Walk.{HasThose, accesses, AreAccesses, AreOrdered, AreUnpassed, AreAwaited, AreDirect}
use Rattle.c62_depend.proofs.Common.{Link}
use Rattle.c62_depend.proofs.Latencies.{insn_at}
use Rattle.c62_depend.proofs.MemoryRelays.{found_in}

-- those before a place
abbrev pub HasThoseBelow : (ℕ → Bool) → ℕ → ℕ → NumberSet → Type 0
HasThoseBelow test at j set = (k : ℕ) → number_in set k ≡ (nat_lt k at && (nat_lt k j && test k))

pub below_none : (test : ℕ → Bool) (j : ℕ) (set : NumberSet) → ((k : ℕ) → number_in set k ≡ false)
    → HasThoseBelow test 0 j set
below_none test j set none k = none k ∙ nothing k (nat_lt k j && test k)
  where
    nothing : (k : ℕ) (b : Bool) → false ≡ (nat_lt k 0 && b)
    nothing k b = grind (arith, nat_tests)

-- a number is added where the test tells so
module _ (test : ℕ → Bool) (at i j : ℕ) (old new : NumberSet) (t : Bool) where
  below_other : (k : ℕ) → k ≢ i → (nat_lt k at ≡ nat_lt k (i + 1)) → HasThoseBelow test at j old
      → ((m : ℕ) → number_in new m ≡ (number_in old m || (t && (m == i))))
      → number_in new k ≡ (nat_lt k (i + 1) && (nat_lt k j && test k))
  below_other k other same were more = more k ∙ apart t (number_in old k) ∙ were k
      ∙ ap (λ (b : Bool). b && (nat_lt k j && test k)) same
    where
      apart : (t old : Bool) → (old || (t && (k == i))) ≡ old
      apart t old = grind (arith, nat_tests, other)

  below_here : i < j → at ≤ i → t ≡ test i → HasThoseBelow test at j old
      → ((m : ℕ) → number_in new m ≡ (number_in old m || (t && (m == i))))
      → number_in new i ≡ (nat_lt i (i + 1) && (nat_lt i j && test i))
  below_here inside low is were more = more i ∙ ap (λ (b : Bool). b || (t && (i == i))) (were i) ∙ here (test i) t is
    where
      here : (b t : Bool) → t ≡ b
          → ((nat_lt i at && (nat_lt i j && b)) || (t && (i == i))) ≡ (nat_lt i (i + 1) && (nat_lt i j && b))
      here b t is = grind (arith, nat_tests, inside, low, is)

  -- the next of a set that has all those
  pub below_more : (source : ℕ → Bool) (src : NumberSet) → HasThose source j src
      → ((k : ℕ) → k < j → test k ≡ true → source k ≡ true)
      → IsLeastFrom src at i → t ≡ test i → HasThoseBelow test at j old
      → ((m : ℕ) → number_in new m ≡ (number_in old m || (t && (m == i)))) → HasThoseBelow test (i + 1) j new
  below_more source src has only least is were more k = elim (cases_eq k i) [
    | inl same ↦ subst (λ n. number_in new n ≡ (nat_lt n (i + 1) && (nat_lt n j && test n))) (sym same)
        (below_here (ltb-true i j (and_parts (nat_lt i j) (source i) (sym (has i) ∙ least.is_in)).0) least.behind is
        were more)
    | inr other ↦ elim (cases_lt k at) [
      | inl earlier ↦ below_other k other (let behind = least.behind in grind (arith, nat_tests)) were more
      | inr later ↦ elim (cases_lt k i) [
        | inl between ↦ more k ∙ unlisted (number_in old k) (test k) source_of (were k) t other between
        | inr past ↦ below_other k other (let behind = least.behind in grind (arith, nat_tests)) were more
      ]
    ]
  ]
    where
      source_of : k < j → at ≤ k → k < i → test k ≡ true → ⊥
      source_of inside low high tested = both_ways (number_in src k) (least.none k low high) (has k
          ∙ rw (lt-ltb k j inside, only k inside tested) refl)

      unlisted : (o b : Bool) → (k < j → at ≤ k → k < i → b ≡ true → ⊥) → o ≡ (nat_lt k at && (nat_lt k j && b))
          → (t : Bool) → k ≢ i → k < i
          → (o || (t && (k == i))) ≡ (nat_lt k (i + 1) && (nat_lt k j && b))
      unlisted o false never e t apart high = grind (arith, nat_tests, e, apart)
      unlisted o true never e t apart high = elim (cases_lt k j) [
        | inl inside ↦ elim (cases_lt k at) [
          | inl low ↦ grind (arith, nat_tests, e, apart, low, inside, high)
          | inr low ↦ absurd (never inside low high refl)
        ]
        | inr outside ↦ grind (arith, nat_tests, e, apart, outside)
      ]

  -- the next number
  pub below_next : at ≡ i → i < j → t ≡ test i → HasThoseBelow test at j old
      → ((m : ℕ) → number_in new m ≡ (number_in old m || (t && (m == i)))) → HasThoseBelow test (i + 1) j new
  below_next place inside is were more k = elim (cases_eq k i) [
    | inl same ↦ subst (λ n. number_in new n ≡ (nat_lt n (i + 1) && (nat_lt n j && test n))) (sym same)
        (below_here inside (omega arith) is were more)
    | inr other ↦ below_other k other (grind (arith, nat_tests)) were more
  ]

-- all are gone over
pub below_all : (test source : ℕ → Bool) (at j : ℕ) (set src : NumberSet) → HasThose source j src
    → ((k : ℕ) → k < j → test k ≡ true → source k ≡ true)
    → ((k : ℕ) → at ≤ k → number_in src k ≡ false) → HasThoseBelow test at j set → HasThose test j set
below_all test source at j set src has only none were k = were k ∙ elim (cases_lt k at) [
  | inl low ↦ grind (arith, nat_tests, low)
  | inr high ↦ all (test k) (λ inside tested. both_ways (number_in src k) (none k high) (has k
      ∙ rw (lt-ltb k j inside, only k inside tested) refl)) high
]
  where
    all : (b : Bool) → (k < j → b ≡ true → ⊥) → at ≤ k → (nat_lt k at && (nat_lt k j && b)) ≡ (nat_lt k j && b)
    all false never high = grind (arith, nat_tests)
    all true never high = elim (cases_lt k j) [
      | inl inside ↦ absurd (never inside refl)
      | inr outside ↦ grind (arith, nat_tests, outside)
    ]

pub below_end : (test : ℕ → Bool) (at j : ℕ) (set : NumberSet) → j ≤ at → HasThoseBelow test at j set
    → HasThose test j set
below_end test at j set end were k = were k ∙ last (test k)
  where
    last : (b : Bool) → (nat_lt k at && (nat_lt k j && b)) ≡ (nat_lt k j && b)
    last b = grind (arith, nat_tests, end)

-- ---- memory

-- an order is one of accesses
pub order_of_accesses : (uses : List Uses) (j k : ℕ) → keep_order (insns_in uses) k j ≡ true
    → accesses (slice_get (insns_in uses) k) ≡ true
unfolding keep_order
order_of_accesses uses j k h =
    by_insns (slice_get (insns_in uses) k) (slice_get (insns_in uses) j)
    (and_parts (are_ordered (slice_get (insns_in uses) k) (slice_get (insns_in uses) j)) _ h).0
  where
    by_insns : (o r : Option Insn) → are_ordered o r ≡ true → accesses o ≡ true
    by_insns None r e = cc
    by_insns (Some p) None e = cc
    by_insns (Some p) (Some q) e = of_tests (is_load (op_of p)) (is_store (op_of p)) (is_load (op_of q))
        (is_store (op_of q)) e
      where
        of_tests : (load store access other : Bool) → ((store && (access || other)) || (load && other)) ≡ true
            → (load || store) ≡ true
        of_tests true store access other e = refl
        of_tests false true access other e = refl
        of_tests false false access other e = e

-- what accesses no memory has an order with nothing
pub unordered : (uses : List Uses) (j : ℕ) (q : Uses) (set : NumberSet) → j < length uses → q ≡ get_or uses j q
    → (q.loads || q.stores) ≡ false
    → ((k : ℕ) → number_in set k ≡ false) → AreOrdered uses j set
unfolding keep_order
unordered uses j q set within at none empty k =
    empty k ∙ apart (are_ordered (slice_get (insns_in uses) k) (slice_get (insns_in uses) j)) (nat_lt k j) _
    (ap (are_ordered (slice_get (insns_in uses) k)) (insn_at uses j q within at)
    ∙ by_insn (slice_get (insns_in uses) k))
  where
    none_told : (is_load (op_of q.insn) || is_store (op_of q.insn)) ≡ false
    none_told = rw (← q.load_is, ← q.store_is) none

    by_insn : (o : Option Insn) → are_ordered o (Some q.insn) ≡ false
    by_insn None = refl
    by_insn (Some p) = of_tests (is_load (op_of p)) (is_store (op_of p)) (is_load (op_of q.insn))
        (is_store (op_of q.insn)) none_told
      where
        of_tests : (load store access other : Bool) → (access || other) ≡ false
            → ((store && (access || other)) || (load && other)) ≡ false
        of_tests load store true other e = cc
        of_tests load store false true e = cc
        of_tests load store false false e = grind (arith, nat_tests)

    apart : (o a b : Bool) → o ≡ false → false ≡ (a && (o && b))
    apart o a b e = rw e (sym (nothing a))
      where
        nothing : (a : Bool) → (a && false) ≡ false
        nothing true = refl
        nothing false = refl

-- ---- all

pub accesses_more : (uses : List Uses) (j : ℕ) (u : Uses) (old new : NumberSet) → j < length uses → u ≡ get_or uses j u
    → AreAccesses uses j old
    → ((m : ℕ) → number_in new m ≡ (number_in old m || ((u.loads || u.stores) && (m == j))))
    → AreAccesses uses (j + 1) new
accesses_more uses j u old new within at were more k = more k ∙ elim (cases_eq k j) [
  | inl same ↦ rw (were k, same, insn_at uses j u within at, u.load_is, u.store_is)
      (here (is_load (op_of u.insn) || is_store (op_of u.insn)))
  | inr other ↦ rw (were k) (there (accesses (slice_get (insns_in uses) k)) (u.loads || u.stores) other)
]
  where
    here : (b : Bool) → ((nat_lt j j && b) || (b && (j == j))) ≡ (nat_lt j (j + 1) && b)
    here true = grind (arith, nat_tests)
    here false = grind (arith, nat_tests)

    apart : k ≢ j → (k == j) ≡ false
    apart other = grind (arith, nat_tests, other)

    same_test : k ≢ j → nat_lt k j ≡ nat_lt k (j + 1)
    same_test other = grind (arith, nat_tests, other)

    there : (b t : Bool) → k ≢ j → ((nat_lt k j && b) || (t && (k == j))) ≡ (nat_lt k (j + 1) && b)
    there b t other = rw (apart other, same_test other) (of_two (nat_lt k (j + 1) && b) t)
      where
        of_two : (x t : Bool) → (x || (t && false)) ≡ x
        of_two true t = refl
        of_two false true = refl
        of_two false false = refl

pub accesses_none : (uses : List Uses) (set : NumberSet) → ((k : ℕ) → number_in set k ≡ false) → AreAccesses uses 0 set
accesses_none uses set none k = none k ∙ nothing (accesses (slice_get (insns_in uses) k))
  where
    nothing : (b : Bool) → false ≡ (nat_lt k 0 && b)
    nothing b = grind (arith, nat_tests)

-- the three kinds together
pub direct_all : (uses : List Uses) (j : ℕ) (registers memory branch both all : NumberSet) → AreOpenly uses j registers
    → AreUnpassed uses j memory
    → AreAwaited uses j branch → ((k : ℕ) → number_in both k ≡ (number_in registers k || number_in memory k))
    → ((k : ℕ) → number_in all k ≡ (number_in both k || number_in branch k)) → AreDirect uses j all
unfolding is_direct binds_beside
direct_all uses j registers memory branch both all openly unpassed awaited first second k =
    second k ∙ rw (first k, openly k, unpassed k, awaited k) (of_three (nat_lt k j)
    (meet_openly (insns_in uses) k j (slice_get (insns_in uses) k) (slice_get (insns_in uses) j))
    (keep_order (insns_in uses) k j && not (is_passed (insns_in uses) k j))
    (is_branch_in (slice_get (insns_in uses) j) && not
    (land_behind (insns_in uses) k (direct_before (insns_in uses) k j))))
  where
    of_three : (t a b c : Bool) → (((t && a) || (t && b)) || (t && c)) ≡ (t && (a || (b || c)))
    of_three true a b c = grind (arith, nat_tests)
    of_three false a b c = refl

-- where j is no branch, nothing waits for it
pub unawaited : (uses : List Uses) (j : ℕ) (q : Uses) (set : NumberSet) → j < length uses → q ≡ get_or uses j q
    → q.branches ≡ false
    → ((k : ℕ) → number_in set k ≡ false) → AreAwaited uses j set
unawaited uses j q set within at none empty k =
    let apart : is_branch_in (slice_get (insns_in uses) j) ≡ false = ap is_branch_in (insn_at uses j q within at)
    ∙ sym q.branch_is ∙ none in
    empty k ∙ rw apart (sym (nothing (nat_lt k j)))
  where
    nothing : (a : Bool) → (a && false) ≡ false
    nothing true = refl
    nothing false = refl

-- whether number k waits for the branch
pub awaits_it : (uses : List Uses) (j k : ℕ) (q : Uses) (land : Bool) (links : List Link) → j < length uses
    → q ≡ get_or uses j q → q.branches ≡ true
    → links ≡ direct_before (insns_in uses) k j → land ≡ land_behind (insns_in uses) k links
    → not land ≡ (is_branch_in (slice_get (insns_in uses) j) && not
    (land_behind (insns_in uses) k (direct_before (insns_in uses) k j)))
awaits_it uses j k q land links within at is listed told =
    let branch : is_branch_in (slice_get (insns_in uses) j) ≡ true = ap is_branch_in (insn_at uses j q within at)
    ∙ sym q.branch_is ∙ is in
    rw (branch, told, listed) refl
