-- The events of what is issued, cycle by cycle (docs/TRACE.md, "Events").
use Rattle.std.specs.Prelude.{ℕ, ◌+◌, List}
use Rattle.std.specs.List.{flat_map, range_with_len}
use Rattle.c62_serial.specs.State.{Machine}
use Rattle.c62_packet.specs.declared.placed.Placed.{Placed}
use Rattle.c62_meaning.specs.Packet.{Did}
use Rattle.c62_trace.specs.Event.{Event, Entry, entries, events_in}

-- what is told of the events of a cycle
abbrev pub Telling : Type 0
Telling = ℕ → List Event → List Entry

-- of a block that begins in this cycle of the run
abbrev pub behind : ℕ → Telling
behind start cycle events = entries (start + cycle) events

abbrev pub cycle_log : Telling → List Placed → Machine → Did → ℕ → List Entry
cycle_log telling placed opening did cycle = telling cycle (events_in placed opening did cycle)

-- the events of so many cycles from one on
abbrev pub log_from : Telling → List Placed → Machine → Did → (first count : ℕ) → List Entry
log_from telling placed opening did first count = flat_map (cycle_log telling placed opening did) (range_with_len first count)

-- of so many from the first on
abbrev pub log_of : Telling → List Placed → Machine → Did → (count : ℕ) → List Entry
log_of telling placed opening did count = log_from telling placed opening did 0 count
