-- Elements at the registers of a set, gone over from the lowest.
use Rattle.c62_depend.proofs.Common.{◌≡◌, ℕ, ◌+◌, ◌*◌, ◌^◌, ◌<◌, ◌≤◌, Bool, true, false, List, length, set, get_or}
use Rattle.c62_depend.proofs.Common.{refl, sym, ap, ◌∙◌, arith, inl, inr, ◌⊎◌}
use Rattle.c62_depend.proofs.Common.{bit_at, cases_eq, cases_lt, get_or-set_at, get_or-set_other, ◌==◌, Reg, RegSet}
use Rattle.c62_depend.proofs.Common.{reg_in, eqb-true, nat_tests, both_ways, ◌||◌, or_cases, or_left, or_right}
use Rattle.std.proofs.Common.{◌/◌}
use Rattle.std.proofs.Math.ListN.{length-set}
use Rattle.std.proofs.lemmas.Nat.Bits.{bit_at-lt}
use Rattle.c62_op.specs.Register.{register_index}
use Rattle.c62_depend.proofs.Common.{◌≢◌}
use Rattle.c62_depend.proofs.Words.{IsLowest, reg_before, bit_within}
use Rattle.c62_pair.proofs.RegSets.{index-within, reg_at}
use Rattle.c62_depend.specs.declared.number_set.NumberSet.{NumberSet}
use Rattle.c62_depend.specs.NumberSet.{number_in}
use Rattle.c62_depend.specs.Open.{at_register, no_numbers}

-- those at the bits before a place are changed so, and no others
pub record AreChanged {X : Type 0} (So : X → X → Type 0) (old new : List X) (d : X) (word at rest : ℕ) : Type 0 where
  pub left : rest ≡ word / 2 ^ at
  pub long : length new ≡ length old
  pub changed : (index : ℕ) → index < at → bit_at word index ≡ 1 → So (get_or old index d) (get_or new index d)
  pub kept : (index : ℕ) → index < at → bit_at word index ≡ 0 → get_or new index d ≡ get_or old index d
  pub ahead : (index : ℕ) → at ≤ index → get_or new index d ≡ get_or old index d

pub changed_none : {X : Type 0} (So : X → X → Type 0) (old : List X) (d : X) (word : ℕ)
    → AreChanged So old old d word 0 word
changed_none So old d word = record {
  left = omega arith;
  long = refl;
  changed = λ index low. absurd (omega (arith, low));
  kept = λ index low. absurd (omega (arith, low));
  ahead = λ index low. refl;
}

pub changed_more : {X : Type 0} (So : X → X → Type 0) (old new next : List X) (d after : X) (word at rest skipped : ℕ)
    → AreChanged So old new d word at rest → IsLowest word at rest skipped → at + skipped < length old
    → next ≡ set new (at + skipped) after
    → So (get_or new (at + skipped) d) after → AreChanged So old next d word (at + skipped + 1) (rest / 2 ^ skipped / 2)
changed_more {X} So old new next d after word at rest skipped are low within is so = rw is (record {
  left = low.next;
  long = length-set new (at + skipped) after ∙ are.long;
  changed = λ index below bit. elim (cases_eq index (at + skipped)) [
    | inl same ↦
        let there : index < length new = omega (arith, are.long, within, same) in
        let before : So (get_or old (at + skipped) d) after = rw (← are.ahead (at + skipped) (omega arith)) so in
        rw (get_or-set_at new (at + skipped) index after d same (omega (arith, are.long, within)), same) before
    | inr other ↦ rw (get_or-set_other new (at + skipped) index after d other) (elim (cases_lt index at) [
      | inl earlier ↦ are.changed index earlier bit
      | inr later ↦ absurd (omega (arith, bit, low.none index later (omega arith)))
    ])
  ];
  kept = λ index below bit. elim (cases_eq index (at + skipped)) [
    | inl same ↦ absurd (omega (arith, bit, low.set, ap (bit_at word) same))
    | inr other ↦ rw (get_or-set_other new (at + skipped) index after d other) (elim (cases_lt index at) [
      | inl earlier ↦ are.kept index earlier bit
      | inr later ↦ are.ahead index later
    ])
  ];
  ahead = λ index behind.
      let other : index ≢ at + skipped = omega (arith, behind) in
      rw (get_or-set_other new (at + skipped) index after d other) (are.ahead index (omega arith));
})

-- in the end those at the registers of the set are
pub changed_in : {X : Type 0} (So : X → X → Type 0) (old new : List X) (d : X) (set : RegSet) (at rest : ℕ) (reg : Reg)
    → 0 ≡ rest → AreChanged So old new d set.bits at rest → reg_in set reg ≡ true
    → So (get_or old (register_index reg) d) (get_or new (register_index reg) d)
changed_in So old new d set at rest reg none are is = (let before = reg_before set at reg (none
    ∙ are.left) is in are.changed (register_index reg) before.0 before.1)

pub changed_not : {X : Type 0} (So : X → X → Type 0) (old new : List X) (d : X) (set : RegSet) (at rest : ℕ) (reg : Reg)
    → 0 ≡ rest → AreChanged So old new d set.bits at rest → reg_in set reg ≡ false
    → get_or new (register_index reg) d ≡ get_or old (register_index reg) d
changed_not So old new d set at rest reg none are is =
    let bit : bit_at set.bits (register_index reg) ≡ 0 = grind
    (arith, nat_tests, is, bit_at-lt set.bits (register_index reg)) in
    elim (cases_lt (register_index reg) at)
    [ inl low ↦ are.kept (register_index reg) low bit | inr high ↦ are.ahead (register_index reg) high ]

-- ---- the numbers at the registers of a set

-- the set has the numbers of those at the bits before a place
pub record AreGathered (all : NumberSet) (sets : List NumberSet) (word at rest : ℕ) : Type 0 where
  pub left : rest ≡ word / 2 ^ at
  pub has : (index k : ℕ) → index < at → bit_at word index ≡ 1 → number_in (get_or sets index no_numbers) k ≡ true
      → number_in all k ≡ true
  pub from : (k : ℕ) → number_in all k ≡ true → (index : ℕ) × (index < at) × (bit_at word index ≡ 1)
      × (number_in (get_or sets index no_numbers) k ≡ true)

pub gathered_none : (all : NumberSet) (sets : List NumberSet) (word : ℕ) → ((k : ℕ) → number_in all k ≡ false)
    → AreGathered all sets word 0 word
gathered_none all sets word none = record {
  left = omega arith;
  has = λ index k low. absurd (omega (arith, low));
  from = λ k is. absurd (both_ways (number_in all k) (none k) is);
}

pub gathered_more : (all more one : NumberSet) (sets : List NumberSet) (word at rest skipped : ℕ)
    → AreGathered all sets word at rest
    → IsLowest word at rest skipped → one ≡ get_or sets (at + skipped) no_numbers
    → ((k : ℕ) → number_in more k ≡ (number_in all k || number_in one k))
    → AreGathered more sets word (at + skipped + 1) (rest / 2 ^ skipped / 2)
gathered_more all more one sets word at rest skipped are low is joined = record {
  left = low.next;
  has = λ index k below bit is_in. joined k ∙ (elim (cases_eq index (at + skipped)) [
    | inl same ↦
        or_right (number_in all k) (number_in one k) (ap (λ (s : NumberSet). number_in s k) (is
        ∙ ap (λ n. get_or sets n no_numbers) (sym same)) ∙ is_in)
    | inr other ↦ elim (cases_lt index at) [
      | inl earlier ↦ or_left (number_in all k) (number_in one k) (are.has index k earlier bit is_in)
      | inr later ↦ absurd (omega (arith, bit, low.none index later (omega arith)))
    ]
  ]);
  from = λ k is_in. elim (or_cases (number_in all k) (number_in one k) (sym (joined k) ∙ is_in)) [
    | inl old ↦ (let w = are.from k old in let below : w.0 < at = w.1 in (w.0, omega arith, w.2, w.3))
    | inr new ↦ (at + skipped, omega arith, low.set, ap (λ (s : NumberSet). number_in s k) (sym is) ∙ new)
  ];
}

pub gathered_of : (all : NumberSet) (sets : List NumberSet) (set : RegSet) (at rest : ℕ) → 0 ≡ rest
    → AreGathered all sets set.bits at rest → (k : ℕ)
    → (((reg : Reg) × (reg_in set reg ≡ true) × (number_in (at_register sets reg) k ≡ true)) → number_in all k ≡ true)
gathered_of all sets set at rest none are k (reg, is, is_in) = (let before = reg_before set at reg (none
    ∙ are.left) is in are.has (register_index reg) k before.0 before.1 is_in)

pub gathered_from : (all : NumberSet) (sets : List NumberSet) (set : RegSet) (at rest : ℕ) → 0 ≡ rest
    → AreGathered all sets set.bits at rest → (k : ℕ)
    → number_in all k ≡ true → (reg : Reg) × (reg_in set reg ≡ true) × (number_in (at_register sets reg) k ≡ true)
gathered_from all sets set at rest none are k is_in =
    let w = are.from k is_in in
    let within : w.0 < 32 = bit_within set.bits 32 w.0 set.within w.2 in
    let reg = reg_at w.0 within in
    (reg.0, rw (reg.1, w.2) refl, rw reg.1 w.3)
