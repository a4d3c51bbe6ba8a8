-- What flights amount to, as laws above their definition.
use Rattle.std.specs.Prelude.{◌≡◌, ◌≤◌, ℕ, None}
use Rattle.c62_serial.specs.State.{Machine}
use Rattle.c62_flight.specs.declared.stop.Stop.{Stop}
use Rattle.c62_flight.specs.declared.stop.Stop.TheVariants.{Limit}
use Rattle.c62_flight.specs.Text.{Text}
use Rattle.c62_flight.specs.Issued.{Issued, issued_on}
use Rattle.c62_flight.specs.Broken.{broken}
use Rattle.c62_flight.specs.Flight.{Flies}

-- how a run ended
pub record Outcome : Type 0 where
  pub stop : Stop
  pub cycles : ℕ
  pub final : Machine

abbrev pub FliesTo : Text → ℕ → ℕ → Machine → Outcome → Type 0
FliesTo text first limit opening outcome = Flies text first limit opening outcome.stop outcome.cycles outcome.final

-- a text has a flight, and no two
pub record HasOneFlight (text : Text) (first limit : ℕ) (opening : Machine) : Type 0 where
  pub outcome : Outcome
  pub is : FliesTo text first limit opening outcome
  pub only : (other : Outcome) → FliesTo text first limit opening other → other ≡ outcome

-- from this cycle on nothing is broken
abbrev pub IsWholeFrom : ℕ → Issued → Type 0
IsWholeFrom cycle issued = (later : ℕ) → cycle ≤ later → broken issued later ≡ None

-- a flight that does not stop by its limit, and of which nothing clashes from its path's end on, is the same under a greater one
abbrev pub FliesUnderMore : Text → ℕ → ℕ → Machine → Stop → ℕ → Machine → Type 0
FliesUnderMore text first limit opening stop cycles final = (f : Flies text first limit opening stop cycles final) → (stop ≡ Limit → ⊥) → IsWholeFrom f.end (record { placed = issued_on text f.path; did = f.did })
    → (greater : ℕ) → limit ≤ greater → Flies text first greater opening stop cycles final
