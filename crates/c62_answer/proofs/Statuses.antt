-- The statuses of a run that is done.
use Rattle.std.proofs.Common.{◌≡◌, ℕ, Some, None, refl, arith, inl, inr}
use Rattle.std.specs.Prelude.{◌⊎◌, ◌<◌, ◌≤◌}
use Rattle.c62_answer.specs.Run.{status_done}
use Rattle.c62_answer.specs.declared.outcome.Outcome.{Outcome}
use Rattle.c62_answer.specs.declared.outcome.Outcome.TheVariants.{Done, Drained, NotSame, Breached, Looped}
use Rattle.c62_answer.specs.declared.outcome.Breach.TheVariants as breach

pub neither : {P Q : Type 0} → P ⊎ Q → (P → ⊥) → (Q → ⊥) → ⊥
neither (inl p) not_p not_q = not_p p
neither (inr q) not_p not_q = not_q q

pub ends_with : (outcome : Outcome) → (status_done outcome ≡ 0) ⊎ (5 ≤ status_done outcome)
ends_with Done = inl refl
ends_with (Drained added) = inl refl
ends_with NotSame = inr (omega arith)
ends_with (Breached breach.Limit) = inr (omega arith)
ends_with (Breached breach.Fault) = inr (omega arith)
ends_with (Looped told None) = inl refl
ends_with (Looped told (Some breach.Limit)) = inr (omega arith)
ends_with (Looped told (Some breach.Fault)) = inr (omega arith)

pub most_status : (outcome : Outcome) → status_done outcome ≤ 7
most_status Done = omega arith
most_status (Drained added) = omega arith
most_status NotSame = omega arith
most_status (Breached breach.Limit) = omega arith
most_status (Breached breach.Fault) = omega arith
most_status (Looped told None) = omega arith
most_status (Looped told (Some breach.Limit)) = omega arith
most_status (Looped told (Some breach.Fault)) = omega arith

pub ends_otherwise : (outcome : Outcome) (status : ℕ) → 0 < status → status < 5 → status_done outcome ≡ status → ⊥
ends_otherwise outcome status more less ends = neither (ends_with outcome) (λ zero. omega (arith, zero, ends, more))
    (λ five. omega (arith, five, ends, less))
