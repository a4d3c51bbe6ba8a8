-- The faults of a run of a text of packets with everything in flight (docs/EXEC.md).
use Rattle.std.specs.Prelude.{◌≡◌, ℕ, List, []}
use Rattle.c62_serial.specs.State.{Machine}
use Rattle.c62_flight.specs.declared.stop.Stop.{Stop}
use Rattle.c62_flight.specs.Text.{Text}
use Rattle.c62_flight.specs.Issued.{issued_on}
use Rattle.c62_flight.specs.Flight.{Flies}
use Rattle.c62_faulted.specs.declared.fault.Fault.{Fault}
use Rattle.c62_faulted.specs.Faulted.{with_faults}
use Rattle.c62_faulted_packets.specs.Done.{faults_done}

-- The first fault of each line on the path of a text's flight under a limit, in the order of issue.
pub record FindsFlightFaults (text : Text) (first limit : ℕ) (opening : Machine) (told : List Fault) : Type 0 where
  pub stop : Stop
  pub cycles : ℕ
  pub final : Machine
  pub flies : Flies text first limit opening stop cycles final
  pub first_each : told ≡ with_faults [] (faults_done flies.did (issued_on text flies.path))
