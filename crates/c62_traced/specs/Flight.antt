-- The events of a text of packets with everything in flight (docs/TRACE.md, "Events").
use Rattle.std.specs.Prelude.{◌≡◌, ℕ, ◌+◌, List}
use Rattle.c62_serial.specs.State.{Machine}
use Rattle.c62_flight.specs.declared.stop.Stop.{Stop}
use Rattle.c62_flight.specs.Text.{Text}
use Rattle.c62_flight.specs.Issued.{issued_on}
use Rattle.c62_flight.specs.Flight.{Flies}
use Rattle.c62_trace.specs.Event.{Entry, entries}
use Rattle.c62_traced.specs.Trace.{log_of}

-- A text flies so, and these are the events of all that was issued on the way, up to the last landing.
pub record IsFlightLog (text : Text) (first limit : ℕ) (opening : Machine) (stop : Stop) (cycles : ℕ) (final : Machine) (log : List Entry) : Type 0 where
  pub flies : Flies text first limit opening stop cycles final
  pub is : log ≡ log_of entries (issued_on text flies.path) opening flies.did (cycles + 4)
