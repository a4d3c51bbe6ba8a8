-- What the faults of packets that run amount to, as laws above their definitions.
use Rattle.std.specs.Prelude.{◌≡◌, ◌↔◌, ℕ, List, [], Contains, IsTrue}
use Rattle.c62_serial.specs.declared.chain.Chain.{Chain}
use Rattle.c62_serial.specs.State.{Machine, IsSound}
use Rattle.c62_packet.specs.Packed.{Packed}
use Rattle.c62_pipe.specs.Chain.{RunsPackets}
use Rattle.c62_flight.specs.declared.stop.Stop.{Stop}
use Rattle.c62_flight.specs.Text.{Text}
use Rattle.c62_flight.specs.Issued.{issued_on}
use Rattle.c62_flight.specs.Flight.{Flies}
use Rattle.c62_faulted.specs.declared.fault.Fault.{Fault}
use Rattle.c62_faulted.specs.Faulted.{has_line}
use Rattle.c62_faulted.specs.Laws.{TellsFirsts}
use Rattle.c62_faulted_packets.specs.Done.{faults_done}
use Rattle.c62_faulted_packets.specs.Chain.{FindsPacketFaults}
use Rattle.c62_faulted_packets.specs.Flight.{FindsFlightFaults}

-- ---- the first of each line

-- Of the faults that come in a run of packets each line's first is told, and no other.
abbrev pub TellsFirstsOfPackets : List Packed → Machine → ℕ → List Fault → Type 0
TellsFirstsOfPackets packets opening limit told = (finds : FindsPacketFaults packets opening limit told) → TellsFirsts finds.faults told

-- so it is with those of what a flight issues
abbrev pub TellsFirstsOfFlight : Text → ℕ → ℕ → Machine → List Fault → Type 0
TellsFirstsOfFlight text first limit opening told =
    (finds : FindsFlightFaults text first limit opening told)
    → TellsFirsts (faults_done finds.flies.did (issued_on text finds.flies.path)) told

-- ---- the lines of a report

-- From a machine with no faulted line: the lines that are told are those that the run of packets leaves as faulted.
abbrev pub TellsPacketLines : List Packed → Machine → ℕ → List Fault → Chain → ℕ → Machine → Type 0
TellsPacketLines packets opening limit told chain cycles final =
    opening.faults ≡ [] → FindsPacketFaults packets opening limit told → RunsPackets packets opening limit chain cycles final
    → (line : ℕ) → IsTrue (has_line line told) ↔ Contains final.faults line

-- and of a flight
abbrev pub TellsFlightLines : Text → ℕ → ℕ → Machine → List Fault → Stop → ℕ → Machine → Type 0
TellsFlightLines text first limit opening told stop cycles final =
    opening.faults ≡ [] → FindsFlightFaults text first limit opening told → Flies text first limit opening stop cycles final
    → (line : ℕ) → IsTrue (has_line line told) ↔ Contains final.faults line
