-- How long what was issued is in flight.
use Rattle.std.proofs.Common.{◌≡◌, ℕ, zero, suc, ◌+◌, ◌<◌, ◌≤◌, cond, ltb, arith}
use Rattle.std.proofs.lemmas.Bool.Decides.{nat_tests}
use Rattle.c62_wave.specs.declared.signals.Recent.{Recent}
use Rattle.c62_wave.specs.Signals.{none_issued, one_more, in_four, in_five}
use Rattle.c62_wave.specs.Laws.{cycles_on, StaysInFlight}

-- nothing is left of what was issued long ago
gone : (count later delay : ℕ) → delay ≤ later → count ≡ count + cond (ltb later delay) 1 0
gone count later delay late = grind (arith, nat_tests)

pub stays : (recent : Recent) → recent.now < 255 → StaysInFlight recent
stays recent few = record { four = four; five = five }
  where
    four : (later : ℕ) → in_four (cycles_on later (one_more recent))
        ≡ in_four (cycles_on later recent) + cond (ltb later 4) 1 0
    four zero = omega arith
    four (suc zero) = omega arith
    four (suc (suc zero)) = omega arith
    four (suc (suc (suc zero))) = omega arith
    four (suc (suc (suc (suc zero)))) = omega arith
    four (suc (suc (suc (suc (suc later))))) =
        gone (in_four (cycles_on later none_issued)) (suc (suc (suc (suc (suc later))))) 4 (omega arith)

    five : (later : ℕ) → in_five (cycles_on later (one_more recent))
        ≡ in_five (cycles_on later recent) + cond (ltb later 5) 1 0
    five zero = omega arith
    five (suc zero) = omega arith
    five (suc (suc zero)) = omega arith
    five (suc (suc (suc zero))) = omega arith
    five (suc (suc (suc (suc zero)))) = omega arith
    five (suc (suc (suc (suc (suc later))))) =
        gone (in_five (cycles_on later none_issued)) (suc (suc (suc (suc (suc later))))) 5 (omega arith)
