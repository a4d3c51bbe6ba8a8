-- The instances of a loop's work, iteration by iteration.
use Rattle.std.proofs.Common.{◌≡◌, ℕ, zero, suc, ◌+◌, ◌<◌, List, [], ◌∷◌, length}
use Rattle.std.proofs.Common.{subst, ◌⊎◌, inl, inr, arith}
use Rattle.c62_read.specs.declared.block.SerialInsn.{SerialInsn}
use Rattle.c62_packet.specs.declared.placed.Placed.{Placed}
use Rattle.c62_meaning.proofs.Lookup.{In, In-append_left, In-append_right}
use Rattle.c62_meaning.proofs.Lookup.{In-append_cases}
use Rattle.c62_loop.specs.Stage.{Stage, Schedule, round_of, rounds_from}
use Rattle.c62_loop.specs.Whole.{AreStagesOf}
use Rattle.std.proofs.lemmas.Bool.Decides.{nat_tests}

module _ (schedule : Schedule) (passes : ℕ) where
  pub in_rounds : (from trips t : ℕ) (behind : List Placed) (p : Placed) → t < trips
      → In p (round_of schedule passes (from + t)) → In p (rounds_from schedule passes from trips behind)
  in_rounds from zero t behind p l h = absurd (omega arith)
  in_rounds from (suc trips) zero behind p l h = grind (arith, nat_tests, In-append_left)
  in_rounds from (suc trips) (suc t) behind p l h =
      let e : from + suc t ≡ suc from + t = omega arith in
      In-append_right p (round_of schedule passes from) (rounds_from schedule passes (suc from) trips behind)
      (in_rounds (suc from) trips t behind p (omega arith) (subst (λ n. In p (round_of schedule passes n)) e h))

  pub behind_rounds : (from trips : ℕ) (behind : List Placed) (p : Placed) → In p behind
      → In p (rounds_from schedule passes from trips behind)
  behind_rounds from zero behind p h = h
  behind_rounds from (suc trips) behind p h = In-append_right p (round_of schedule passes from)
      (rounds_from schedule passes (suc from) trips behind) (behind_rounds (suc from) trips behind p h)

  pub from_rounds : (from trips : ℕ) (behind : List Placed) (p : Placed)
      → In p (rounds_from schedule passes from trips behind)
      → In p behind ⊎ ((t : ℕ) × (t < trips) × In p (round_of schedule passes (from + t)))
  from_rounds from zero behind p h = inl h
  from_rounds from (suc trips) behind p h =
      elim (In-append_cases p (round_of schedule passes from) (rounds_from schedule passes (suc from) trips behind) h) [
        | inl m ↦ grind arith
        | inr m ↦ elim (from_rounds (suc from) trips behind p m) [
          | inl n ↦ inl n
          | inr n ↦ (let l : n.0 < trips = n.1 in
              let e : suc from + n.0 ≡ from + suc n.0 = omega arith in inr
              (suc n.0, omega arith, subst (λ k. In p (round_of schedule passes k)) e n.2))
        ]
      ]

-- each stage holds so many iterations in prolog and epilog
pub stage_even : (most : ℕ) (entries : List SerialInsn) (stages : List Stage) → AreStagesOf most entries stages
    → (stage : Stage) → In stage stages → length stage.early + length stage.late ≡ most
stage_even most entries [] h stage k = absurd k
stage_even most [] (s ∷ stages) h stage k = absurd h
stage_even most (e ∷ entries) (s ∷ stages) h stage (inl same) = grind arith
stage_even most (e ∷ entries) (s ∷ stages) h stage (inr k) = stage_even most entries stages h.1 stage k
