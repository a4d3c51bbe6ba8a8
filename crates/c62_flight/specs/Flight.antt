-- The flight of a text of packets: the path that a run takes with all that was issued in flight, how it stops, and what it leaves
-- (docs/MACHINE.md, "Cycles and delays" and "Branches"). What instructions do is told over the whole path, as of a block.
use Rattle.std.specs.Prelude.{◌≡◌, ◌⊎◌, ℕ, ◌+◌, ◌<◌, nat_le, min, if◌then◌else◌, List, [], ◌∷◌, Option, Some, None, is_some, IsTrue}
use Rattle.c62_serial.specs.State.{Machine}
use Rattle.c62_meaning.specs.Packet.{Did}
use Rattle.c62_meaning.specs.Cut.{RunsTo}
use Rattle.c62_flight.specs.declared.stop.Stop.{Stop}
use Rattle.c62_flight.specs.declared.stop.Stop.TheVariants.{End, Register, Limit}
use Rattle.c62_flight.specs.Text.{Text, Position, At, Outside, position_after}
use Rattle.c62_flight.specs.Issued.{Visit, Issued, issued_on, turn, over_of, goes_on}
use Rattle.c62_flight.specs.Broken.{broken, IsWholeBefore}

-- ---- the path

-- what ends a run that stands there in a cycle; else the row is begun
abbrev pub ended : Text → ℕ → Issued → Position → ℕ → Option Stop
ended text limit issued (Outside word) cycle = Some (Register word)
ended text limit issued (At row) cycle =
    if goes_on text issued row cycle then (if nat_le limit cycle then Some Limit else None) else Some End

-- a visit begins where a run stands in a cycle
pub record Begins (text : Text) (limit : ℕ) (issued : Issued) (position : Position) (cycle : ℕ) (visit : Visit) : Type 0 where
  pub there : position ≡ At visit.row
  pub when : cycle ≡ visit.start
  pub on : ended text limit issued position cycle ≡ None
  pub whole : IsWholeBefore issued cycle

-- where it stands when the visit is over
abbrev pub stands_after : Text → Issued → Visit → Position
stands_after text issued visit = position_after text visit.row (turn issued (over_of text issued visit))

-- from where a run stands in a cycle these visits, each when the one before it is over, lead to where it stands in another
abbrev pub Leads : Text → ℕ → Issued → Position → ℕ → List Visit → Position → ℕ → Type 0
Leads text limit issued position cycle [] last end = (last ≡ position) × (end ≡ cycle)
Leads text limit issued position cycle (visit ∷ path) last end =
    Begins text limit issued position cycle visit × Leads text limit issued (stands_after text issued visit) (over_of text issued visit) path last end

-- ---- the stop

-- A cycle is broken, and none before it: one of the path's last row, which is the last that counts, or one behind the end in which
-- something still lands, where no cycle counts.
pub record Breaks (text : Text) (limit : ℕ) (issued : Issued) (last : Position) (end : ℕ) (stop : Stop) (cycles : ℕ) : Type 0 where
  pub cycle : ℕ
  pub whole : IsWholeBefore issued cycle
  pub breaks : broken issued cycle ≡ Some stop
  pub seen : (cycle < end) ⊎ IsTrue (is_some (ended text limit issued last end))
  pub told : cycles ≡ min (cycle + 1) end

-- the run ends where its path leads, and no cycle is broken, whatever still lands
pub record Ends (text : Text) (limit : ℕ) (issued : Issued) (last : Position) (end : ℕ) (stop : Stop) (cycles : ℕ) : Type 0 where
  pub whole : (cycle : ℕ) → broken issued cycle ≡ None
  pub ends : ended text limit issued last end ≡ Some stop
  pub told : cycles ≡ end

abbrev pub Stops : Text → ℕ → Issued → Position → ℕ → Stop → ℕ → Type 0
Stops text limit issued last end stop cycles = Breaks text limit issued last end stop cycles ⊎ Ends text limit issued last end stop cycles

-- From a row on a text runs so: it stops there after so many cycles, and when all that was issued has landed the machine is this one.
pub record Flies (text : Text) (first limit : ℕ) (opening : Machine) (stop : Stop) (cycles : ℕ) (final : Machine) : Type 0 where
  pub path : List Visit
  pub did : Did
  pub runs : RunsTo (issued_on text path) (cycles + 4) opening did final
  pub last : Position
  pub end : ℕ
  pub leads : Leads text limit (record { placed = issued_on text path; did = did }) (At first) 0 path last end
  pub stops : Stops text limit (record { placed = issued_on text path; did = did }) last end stop cycles
