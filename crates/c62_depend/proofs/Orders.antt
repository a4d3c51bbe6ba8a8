-- What accesses have an order with, of what stands before them, and what none between passes.
use Rattle.c62_depend.proofs.Common.{◌≡◌, ℕ, zero, suc, ◌+◌, ◌-◌, ◌<◌, ◌≤◌, Bool, true, false, List, [], ◌∷◌, ◌++◌}
use Rattle.c62_depend.proofs.Common.{length, get_or, refl, sym, ap, ◌∙◌, arith, inl, inr}
use Rattle.c62_depend.proofs.Common.{◌&&◌, ◌||◌, nat_lt, list_any, range_with_len, cases_eq, cases_lt, both_ways}
use Rattle.c62_depend.proofs.Common.{false_from_ne_true, and_parts, or_cases, or_left}
use Rattle.c62_depend.proofs.Common.{or_right, lt-ltb, ltb-true, Uses, insns_in, get_or_append_left, get_or_push}
use Rattle.c62_depend.proofs.Common.{length-append, subst}
use Rattle.std.specs.Prelude.{slice_index_or}
use Rattle.std.proofs.lemmas.List.Folds.{list_any_at}
use Rattle.std.proofs.lemmas.List.FromFn.{get_or-range_with_len, length-range_with_len}
use Rattle.c62_insn.specs.declared.insn.Insn.{Insn}
use Rattle.c62_depend.specs.declared.number_set.NumberSet.{NumberSet}
use Rattle.c62_depend.specs.NumberSet.{number_in, IsLeastFrom}
use Rattle.c62_depend.specs.Open.{no_numbers}
use Rattle.c62_depend.specs.Direct.{keep_order}
unfoldable use Rattle.c62_depend.specs.Direct.{is_passed}
use Rattle.c62_depend.specs.Walk.{AreOrdered, AreOrders, AreJoined}
use Rattle.c62_depend.proofs.MemoryRelays.{found_in}

-- ---- sets joined

-- those of the numbers before a place are joined
pub record AreJoinedBelow (orders : List NumberSet) (found : NumberSet) (at : ℕ) (set : NumberSet) : Type 0 where
  pub some : (i : ℕ) → number_in set i ≡ true → (k : ℕ) × (number_in found k ≡ true)
      × (number_in (slice_index_or orders k no_numbers) i ≡ true)
  pub all : (i k : ℕ) → k < at → number_in found k ≡ true → number_in (slice_index_or orders k no_numbers) i ≡ true
      → number_in set i ≡ true

pub joined_none : (orders : List NumberSet) (found set : NumberSet) → ((i : ℕ) → number_in set i ≡ false)
    → AreJoinedBelow orders found 0 set
joined_none orders found set none = record {
  some = λ i is. absurd (both_ways (number_in set i) (none i) is);
  all = λ i k low it has. absurd (omega (arith, low));
}

pub joined_more : (orders : List NumberSet) (found : NumberSet) (at k : ℕ) (old new one : NumberSet)
    → one ≡ slice_index_or orders k no_numbers
    → IsLeastFrom found at k → ((i : ℕ) → number_in new i ≡ (number_in old i || number_in one i))
    → AreJoinedBelow orders found at old
    → AreJoinedBelow orders found (k + 1) new
joined_more orders found at k old new one same least more were = record {
  some = λ i is. elim (or_cases (number_in old i) (number_in one i) (sym (more i) ∙ is)) [
    | inl earlier ↦ were.some i earlier
    | inr here ↦ (k, least.is_in, ap (λ (set : NumberSet). number_in set i) (sym same) ∙ here)
  ];
  all = λ i m low it has. elim (cases_eq m k) [
    | inl e ↦
        let here : number_in one i ≡ true = ap (λ (set : NumberSet). number_in set i) (same
        ∙ ap (λ (n : ℕ). slice_index_or orders n no_numbers) (sym e)) ∙ has in
        more i ∙ or_right (number_in old i) (number_in one i) here
    | inr other ↦ elim (cases_lt m at) [
      | inl earlier ↦ more i ∙ or_left (number_in old i) (number_in one i) (were.all i m earlier it has)
      | inr later ↦ absurd (both_ways (number_in found m) (least.none m later (omega arith)) it)
    ]
  ];
}

pub joined_all : (orders : List NumberSet) (found : NumberSet) (at : ℕ) (set : NumberSet)
    → ((k : ℕ) → at ≤ k → number_in found k ≡ false)
    → AreJoinedBelow orders found at set → AreJoined orders found set
joined_all orders found at set none were = record {
  some = were.some;
  all = λ i k it has. elim (cases_lt k at) [
    | inl earlier ↦ were.all i k earlier it has
    | inr later ↦ absurd (both_ways (number_in found k) (none k later) it)
  ];
}

-- ---- what is passed

passed_by : (block : List Insn) (i k j : ℕ) → i < k → k < j → keep_order block i k ≡ true → keep_order block k j ≡ true
    → is_passed block i j ≡ true
unfolding is_passed
passed_by block i k j low high one other =
    let place : i + 1 + (k - (i + 1)) ≡ k = omega arith in
    list_any_at (λ m. keep_order block i m && keep_order block m j) (range_with_len (i + 1) (j - (i + 1))) (k - (i + 1))
    0
    (omega (arith, length-range_with_len (i + 1) (j - (i + 1))))
    (rw (get_or-range_with_len (i + 1) (j - (i + 1)) (k - (i + 1)) 0 (omega arith), place, one, other) refl)

module _ (uses : List Uses) (j : ℕ) (orders : List NumberSet) (found passed : NumberSet) (are : AreOrders uses j orders)
    (has : AreOrdered uses j found)
    (joined : AreJoined orders found passed) where
  pub passed_is : (i : ℕ) → number_in passed i ≡ is_passed (insns_in uses) i j
  unfolding is_passed
  passed_is i = by_test (is_passed (insns_in uses) i j) refl
    where
      by_test : (t : Bool) → is_passed (insns_in uses) i j ≡ t → number_in passed i ≡ t
      by_test true e =
          let w = found_in (λ m. keep_order (insns_in uses) i m && keep_order (insns_in uses) m j) (i + 1) (j - (i + 1))
          e in
          let above : i + 1 ≤ w.0 = w.1 in
          let below : w.0 < i + 1 + (j - (i + 1)) = w.2 in
          let inside : w.0 < j = omega arith in
          let parts = and_parts (keep_order (insns_in uses) i w.0) (keep_order (insns_in uses) w.0 j) w.3 in
          let it : number_in found w.0 ≡ true = has w.0 ∙ rw (lt-ltb w.0 j inside, parts.1) refl in
          let in_it : number_in (slice_index_or orders w.0 no_numbers) i ≡ true = are.each w.0 no_numbers inside i
          ∙ rw (lt-ltb i w.0 (omega arith), parts.0) refl in
          joined.all i w.0 it in_it
      by_test false e = false_from_ne_true (number_in passed i) (λ is.
          let w = joined.some i is in
          let second = and_parts (nat_lt w.0 j) (keep_order (insns_in uses) w.0 j) (sym (has w.0) ∙ w.1) in
          let inside : w.0 < j = ltb-true w.0 j second.0 in
          let first = and_parts (nat_lt i w.0) (keep_order (insns_in uses) i w.0)
          (sym (are.each w.0 no_numbers inside i) ∙ w.2) in
          both_ways (is_passed (insns_in uses) i j) e
          (passed_by (insns_in uses) i w.0 j (ltb-true i w.0 first.0) inside first.1 second.1))

-- ---- the sets of all numbers

pub orders_none : (uses : List Uses) (orders : List NumberSet) → orders ≡ [] → AreOrders uses 0 orders
orders_none uses orders e = record { long = ap length e; each = λ k d low. absurd (omega (arith, low)) }

pub orders_more : (uses : List Uses) (j : ℕ) (orders new : List NumberSet) (found : NumberSet)
    → new ≡ orders ++ found ∷ [] → AreOrders uses j orders → AreOrdered uses j found
    → AreOrders uses (j + 1) new
orders_more uses j orders new found e are has = record {
  long = ap length e ∙ length-append orders (found ∷ []) ∙ ap (λ n. n + 1) are.long;
  each = λ k d low. elim (cases_lt k j) [
    | inl before ↦
        let same : slice_index_or new k d ≡ slice_index_or orders k d =
        ap (λ (sets : List NumberSet). get_or sets k d) e
        ∙ get_or_append_left orders (found ∷ []) d k (omega (arith, before, are.long)) in
        rw same (are.each k d before)
    | inr last ↦
        let here : k ≡ length orders = omega (arith, low, last, are.long) in
        let same : slice_index_or new k d ≡ found = ap (λ (sets : List NumberSet). get_or sets k d) e
        ∙ get_or_push orders found d k (sym here) in
        let this : k ≡ j = omega (arith, low, last) in
        rw (same, this) has
  ];
}
