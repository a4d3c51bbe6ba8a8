-- A flight is cut where nothing is in flight: what is behind flies by itself from the machine that was left there.
use Rattle.std.specs.Prelude.{◌≡◌, ℕ, ◌+◌, ◌≤◌, List, Contains, Some}
use Rattle.c62_insn.specs.declared.effect.Target.{Target}
use Rattle.c62_serial.specs.State.{Machine}
use Rattle.c62_packet.specs.declared.placed.Placed.{Placed}
use Rattle.c62_meaning.specs.Packet.{Did}
use Rattle.c62_meaning.specs.Cut.{RunsTo, HaveLanded}
use Rattle.c62_flight.specs.declared.stop.Stop.{Stop}
use Rattle.c62_flight.specs.Text.{Text, At}
use Rattle.c62_flight.specs.Issued.{Visit, Issued, issued_on}
use Rattle.c62_flight.specs.Broken.{IsWholeBefore}
use Rattle.c62_flight.specs.Flight.{Leads, Flies}

-- all has landed, and each branch that ran has taken effect
pub record IsDrained (issued : Issued) (cycle : ℕ) : Type 0 where
  pub all : HaveLanded cycle issued.placed issued.did
  pub branches : (p : Placed) (target : Target) → Contains issued.placed p → (issued.did p).target ≡ Some target → p.cycle + 6 ≤ cycle

-- from the first row a path leads to a row in a cycle in which nothing is in flight, and the machine is this one there
pub record IsCut (text : Text) (first limit : ℕ) (opening : Machine) (row cycle : ℕ) (middle : Machine) : Type 0 where
  pub path : List Visit
  pub did : Did
  pub runs : RunsTo (issued_on text path) cycle opening did middle
  pub leads : Leads text limit (record { placed = issued_on text path; did = did }) (At first) 0 path (At row) cycle
  pub whole : IsWholeBefore (record { placed = issued_on text path; did = did }) cycle
  pub drained : IsDrained (record { placed = issued_on text path; did = did }) cycle

-- what flies from there is the rest of the flight
abbrev pub FliesOn : Text → ℕ → ℕ → Machine → ℕ → ℕ → Machine → Type 0
FliesOn text first more opening row cycle middle = IsCut text first (cycle + more) opening row cycle middle → (stop : Stop) (cycles : ℕ) (final : Machine)
    → Flies text row more middle stop cycles final → Flies text first (cycle + more) opening stop (cycle + cycles) final

-- when a run stops all that it issued lands in four cycles
abbrev pub LandsInFour : Text → ℕ → ℕ → Machine → Stop → ℕ → Machine → Type 0
LandsInFour text first limit opening stop cycles final = (f : Flies text first limit opening stop cycles final)
    → HaveLanded (cycles + 4) (issued_on text f.path) f.did
