-- Dependences by memory are direct, or kept by others.
use Rattle.c62_depend.proofs.Common.{◌≡◌, ℕ, zero, suc, ◌+◌, ◌-◌, ◌<◌, ◌≤◌, ℤ, pos, ◌+ℤ◌, ◌≤ℤ◌, Bool, true, false, List}
use Rattle.c62_depend.proofs.Common.{Option, Some, None, refl, sym, ◌∙◌, subst, arith, ints, nat_tests, inl, inr, ◌||◌}
use Rattle.c62_depend.proofs.Common.{◌&&◌, not, list_any, range_with_len, slice_get, Insn, op_of, is_load, is_store}
use Rattle.c62_depend.proofs.Common.{IsBound, AfterStore, StoreAfterLoad, are_disjoint, both_ways, or_cases, and_parts}
use Rattle.c62_depend.proofs.Common.{not-true, same_Some}
use Rattle.c62_depend.specs.Direct.{are_ordered}
unfoldable use Rattle.c62_depend.specs.Direct.{keep_order, is_passed}
use Rattle.c62_depend.proofs.Relays.{Relay, relay}

-- ---- memory

-- a bound between two accesses that keep their order: at least 0, and behind a store 1
record Orders (block : List Insn) (i j : ℕ) : Type 0 where
  pub bound : ℤ
  pub first : Insn
  pub second : Insn
  pub at_first : slice_get block i ≡ Some first
  pub at_second : slice_get block j ≡ Some second
  pub applies : IsBound block i j first second bound
  pub low : pos 0 ≤ℤ bound
  pub store : is_store (op_of first) ≡ true → bound ≡ pos 1

behind_store : (load store access : Bool) → ((true && (access || store)) || (load && store)) ≡ true
    → (access || store) ≡ true
behind_store load true access h = grind (arith, nat_tests)
behind_store load false access h = grind (arith, nat_tests)

behind_load : (load store access : Bool) → ((false && (access || store)) || (load && store)) ≡ true
    → (load && store) ≡ true
behind_load load store access h = h

order_of : (block : List Insn) (i j : ℕ) (p q : Insn) → slice_get block i ≡ Some p → slice_get block j ≡ Some q
    → are_ordered (Some p) (Some q) ≡ true → are_disjoint block i j ≡ false → Orders block i j
order_of block i j p q at_i at_j ordered free = by_first (is_store (op_of p)) refl ordered
  where
    by_first : (stores : Bool) → is_store (op_of p) ≡ stores
        → ((stores && (is_load (op_of q) || is_store (op_of q))) || (is_load (op_of p) && is_store (op_of q))) ≡ true
        → Orders block i j
    by_first true e h =
        let access = behind_store (is_load (op_of p)) (is_store (op_of q)) (is_load (op_of q)) h in
        record {
          bound = pos 1;
          first = p;
          second = q;
          at_first = at_i;
          at_second = at_j;
          applies = AfterStore e (or_cases _ _ access) free refl;
          low = omega (arith, ints);
          store = λ yes. refl;
        }
    by_first false e h =
        let parts = and_parts (is_load (op_of p)) (is_store (op_of q))
        (behind_load (is_load (op_of p)) (is_store (op_of q)) (is_load (op_of q)) h) in
        record {
          bound = pos 0;
          first = p;
          second = q;
          at_first = at_i;
          at_second = at_j;
          applies = StoreAfterLoad parts.0 parts.1 free refl;
          low = omega (arith, ints);
          store = λ yes. absurd (both_ways (is_store (op_of p)) e yes);
        }

orders_of : (block : List Insn) (i j : ℕ) → keep_order block i j ≡ true → Orders block i j
unfolding keep_order
orders_of block i j h =
    let parts = and_parts (are_ordered (slice_get block i) (slice_get block j)) (not (are_disjoint block i j)) h in
    both_at (slice_get block i) (slice_get block j) refl refl parts.0 (not-true (are_disjoint block i j) parts.1)
  where
    both_at : (o r : Option Insn) → slice_get block i ≡ o → slice_get block j ≡ r → are_ordered o r ≡ true
        → are_disjoint block i j ≡ false
        → Orders block i j
    both_at None r at_i at_j h free = cc
    both_at (Some p) None at_i at_j h free = cc
    both_at (Some p) (Some q) at_i at_j h free = order_of block i j p q at_i at_j h free

-- a number of a range that a test finds
pub found_in : (test : ℕ → Bool) (low count : ℕ) → list_any test (range_with_len low count) ≡ true
    → (k : ℕ) × (low ≤ k) × (k < low + count) × (test k ≡ true)
found_in test low zero h = cc
found_in test low (suc count) h = elim (or_cases (test low) (list_any test (range_with_len (low + 1) count)) h) [
  | inl first ↦ (low, omega arith, omega arith, first)
  | inr later ↦
      let w = found_in test (low + 1) count later in
      let above : low + 1 ≤ w.0 = w.1 in
      let below : w.0 < low + 1 + count = w.2 in
      (w.0, omega arith, omega arith, w.3)
]

-- a number between has an order with both
pub by_passing : (block : List Insn) (i j : ℕ) (b : ℤ) → i < j → is_passed block i j ≡ true
    → ((one other : ℤ) → pos 0 ≤ℤ one → pos 0 ≤ℤ other
    → ((p : Insn) → slice_get block i ≡ Some p → is_store (op_of p) ≡ true → one ≡ pos 1) → b ≤ℤ (one +ℤ other))
    → Relay block i j b
unfolding is_passed
by_passing block i j b before passed sum =
    let w = found_in (λ k. keep_order block i k && keep_order block k j) (i + 1) (j - (i + 1)) passed in
    let above : i + 1 ≤ w.0 = w.1 in
    let below : w.0 < i + 1 + (j - (i + 1)) = w.2 in
    let parts = and_parts (keep_order block i w.0) (keep_order block w.0 j) w.3 in
    let first = orders_of block i w.0 parts.0 in
    let second = orders_of block w.0 j parts.1 in
    relay block i w.0 j b first.bound second.bound (omega arith) (omega arith)
    (record {
      first = first.first;
      second = first.second;
      is_first = first.at_first;
      is_second = first.at_second;
      before = omega arith;
      applies = first.applies;
    })
    (record {
      first = second.first;
      second = second.second;
      is_first = second.at_first;
      is_second = second.at_second;
      before = omega arith;
      applies = second.applies;
    })
    (sum first.bound second.bound first.low second.low (λ p at stores.
    let same : p ≡ first.first = same_Some p first.first (sym at ∙ first.at_first) in
    first.store (subst (λ (x : Insn). is_store (op_of x) ≡ true) same stores)))
