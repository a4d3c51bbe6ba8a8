-- A flight that is over where it begins.
use Rattle.std.proofs.Common.{◌≡◌, ℕ, ◌<◌, ◌≤◌, [], length, Some, refl}
use Rattle.std.proofs.Common.{inr, arith}
use Rattle.c62_serial.specs.State.{Machine, IsSound}
use Rattle.c62_serial.specs.Effect.{no_act}
use Rattle.c62_meaning.proofs.JoinedRuns.{runs_nothing}
use Rattle.c62_flight.specs.declared.stop.Stop.{Stop}
use Rattle.c62_flight.specs.declared.stop.Stop.TheVariants.{End, Limit}
use Rattle.c62_flight.specs.Text.{Text, At}
use Rattle.c62_flight.specs.Flight.{ended, Flies}

-- ---- a flight that is over where it begins

stays : (text : Text) (row limit : ℕ) (machine : Machine) (stop : Stop) → IsSound machine
    → ended text limit (record { placed = []; did = λ _. no_act }) (At row) 0 ≡ Some stop
    → Flies text row limit machine stop 0 machine
stays text row limit machine stop sound e = record {
  path = [];
  did = λ _. no_act;
  runs = runs_nothing 4 machine (λ _. no_act) sound;
  last = At row;
  end = 0;
  leads = (refl, refl);
  stops = inr (record { whole = λ c. refl; ends = e; told = refl });
}

pub stays_behind : (text : Text) (row limit : ℕ) (machine : Machine) → IsSound machine → length text.rows ≤ row
    → Flies text row limit machine End 0 machine
stays_behind text row limit machine sound l = grind (arith, stays text row limit machine End sound)

pub stays_limited : (text : Text) (row : ℕ) (machine : Machine) → IsSound machine → row < length text.rows
    → Flies text row 0 machine Limit 0 machine
stays_limited text row machine sound l = grind (arith, stays text row 0 machine Limit sound)
