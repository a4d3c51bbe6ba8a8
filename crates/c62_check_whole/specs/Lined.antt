-- Packets with other lines: they fly the same, and the lines that faulted are those of the same places (docs/EXEC.md, "Rows").
use Rattle.std.specs.Prelude.{◌≡◌, ◌⊎◌, ◌↔◌, ℕ, Bool, Contains, slice_get, Some, IsTrue}
use Rattle.c62_serial.specs.State.{Machine, IsSound}
use Rattle.c62_packet.specs.declared.placed.Placed.{Placed}
use Rattle.c62_meaning.specs.Alike.{AreSameButFaults}
use Rattle.c62_flight.specs.declared.stop.Stop.{Stop}
use Rattle.c62_flight.specs.declared.stop.Stop.TheVariants.{Clash, Branches}
use Rattle.c62_flight.specs.Text.{Text, row_of}
use Rattle.c62_flight.specs.Flight.{Flies}
use Rattle.c62_check_loop.specs.Relined.{AreRelined}

-- which places faulted: of a row's number and the position of an instruction in the row
abbrev pub Places : Type 0
Places = ℕ → ℕ → Bool

-- an instruction of this line stands in one of the places
pub record StandsIn (text : Text) (places : Places) (line : ℕ) : Type 0 where
  pub row : ℕ
  pub position : ℕ
  pub placed : Placed
  pub stands : slice_get (row_of text row).insns position ≡ Some placed
  pub of_line : placed.line ≡ line
  pub inside : IsTrue (places row position)

-- the faulted lines of a flight are those that had faulted before it, and those of these places
abbrev pub HaveFaulted : Text → Places → Machine → Machine → Type 0
HaveFaulted text places opening final = (line : ℕ) → Contains final.faults line ↔ (Contains opening.faults line ⊎ StandsIn text places line)

-- a stop that names no lines
abbrev pub IsLineless : Stop → Type 0
IsLineless (Clash reg one other) = ⊥
IsLineless (Branches one other) = ⊥
IsLineless stop = Unit {0}

-- the other text flies as this one, and both leave the same but for faults, which are of the same places
pub record HasSameFlight (text other : Text) (first limit : ℕ) (opening : Machine) (stop : Stop) (cycles : ℕ) (final : Machine) : Type 0 where
  pub left : Machine
  pub flies : Flies other first limit opening stop cycles left
  pub machine : AreSameButFaults final left
  pub places : Places
  pub faulted : HaveFaulted text places opening final
  pub others_faulted : HaveFaulted other places opening left

-- so it is of texts that hold the same packets
abbrev pub FlyAlike : Text → Text → Type 0
FlyAlike text other = AreRelined text other → (first limit : ℕ) (opening : Machine) (stop : Stop) (cycles : ℕ) (final : Machine) → IsSound opening → IsLineless stop
    → Flies text first limit opening stop cycles final → HasSameFlight text other first limit opening stop cycles final
