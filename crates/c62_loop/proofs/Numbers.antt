-- Each number of a path has a place in one of its parts.
use Rattle.std.proofs.Common.{◌≡◌, ℕ, zero, suc, ◌+◌, ◌-◌, ◌<◌, ◌≤◌, ◌++◌, length, ap, ⊎_elim, arith}
use Rattle.std.proofs.lemmas.Bool.{cases_lt}
use Rattle.c62_loop.specs.Stage.{Straights, rounds_with, insns_of}
use Rattle.std.proofs.lemmas.List.{length-append}
use Rattle.c62_loop.proofs.Parts.{rows, begin, part, part_body, part_next}

module _ (straights : Straights) where
  pub record Place (trips i : ℕ) : Type 0 where
    pub part_number : ℕ
    pub number : ℕ
    pub there : part_number ≤ suc trips
    pub within : number < length (part straights trips part_number)
    pub is : i ≡ begin straights part_number + number

  round_place : (trips k : ℕ) → k < length (rounds_with straights.body trips straights.behind)
      → (t a : ℕ) × (t ≤ trips) × (a < length (part straights trips (suc t))) × (k ≡ rows (length straights.body) t + a)
  round_place zero k l = (0, k, omega arith, l, omega arith)
  round_place (suc trips) k l =
      let n : length (straights.body ++ rounds_with straights.body trips straights.behind) ≡ length straights.body +
      length (rounds_with straights.body trips straights.behind)
      = length-append straights.body (rounds_with straights.body trips straights.behind) in
      ⊎_elim {C = (t a : ℕ) × (t ≤ suc trips) × (a < length (part straights (suc trips) (suc t)))
      × (k ≡ rows (length straights.body) t + a)}
      (λ (u : k < length straights.body). let m : length (part straights (suc trips) (suc 0)) ≡ length straights.body =
      ap length (part_body straights (suc trips) 0 (omega arith)) in
      (0, k, omega arith, omega arith, omega arith))
      (λ (u : length straights.body ≤ k). let r = round_place trips (k - length straights.body) (omega arith) in
      let low : r.0 ≤ trips = r.2 in
      let is : k - length straights.body ≡ rows (length straights.body) r.0 + r.1 = r.4 in
      let same : length (part straights (suc trips) (suc (suc r.0))) ≡ length (part straights trips (suc r.0)) =
      ap length (part_next straights trips (suc r.0) (omega arith)) in
      let in_part : r.1 < length (part straights trips (suc r.0)) = r.3 in
      (suc r.0, r.1, omega arith, omega arith, omega arith))
      (cases_lt k (length straights.body))

  pub place : (trips i : ℕ) → i < length (insns_of straights trips) → Place trips i
  place trips i l =
      let n : length (insns_of straights trips) ≡ length straights.before + length
      (rounds_with straights.body trips straights.behind)
      = length-append straights.before (rounds_with straights.body trips straights.behind) in
      ⊎_elim {C = Place trips i}
      (λ (u : i < length straights.before). record
      { part_number = 0; number = i; there = omega arith; within = u; is = omega arith })
      (λ (u : length straights.before ≤ i). let r = round_place trips (i - length straights.before) (omega arith) in
      let low : r.0 ≤ trips = r.2 in
      let is : i - length straights.before ≡ rows (length straights.body) r.0 + r.1 = r.4 in
      record { part_number = suc r.0; number = r.1; there = omega arith; within = r.3; is = omega arith })
      (cases_lt i (length straights.before))
