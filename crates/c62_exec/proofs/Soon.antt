-- A run comes down in the cycle before which it stands.
use Rattle.std.proofs.Common.{◌≡◌, ℕ, List, Option, Some, None, refl, ap, ◌∙◌}
use Rattle.c62_pipe.specs.Flight.{Slot}
use Rattle.c62_flight.specs.declared.stop.Stop.{Stop}
use Rattle.c62_exec.specs.declared.run.Flown.{Flown}
use Rattle.c62_exec.specs.Step.{clash_from, flown_from}

down_in : (stop : Stop) (end : ℕ) (found : Option (ℕ × Stop)) → (flown_from stop end found).cycles ≡ end
down_in stop end None = refl
down_in stop end (Some found) = refl

pub soon_down : (stop : Stop) (end : ℕ) (slots : List Slot) (flown : Flown)
    → flown ≡ flown_from stop end (clash_from 4 end slots) → flown.cycles ≡ end
soon_down stop end slots flown same = ap (λ (g : Flown). g.cycles) same ∙ down_in stop end (clash_from 4 end slots)
