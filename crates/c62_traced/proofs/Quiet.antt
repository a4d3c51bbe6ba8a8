-- What is told of cycles in which nothing is issued are the landings of what was.
use Rattle.std.proofs.Common.{◌≡◌, ◌∙◌, ℕ, ◌<◌, List}
use Rattle.std.proofs.Common.{length, map, sym, ap}
use Rattle.std.proofs.Common.{arith}
use Rattle.c62_serial.specs.State.{Machine}
use Rattle.c62_packet.specs.declared.placed.Placed.{Placed}
use Rattle.c62_meaning.specs.Packet.{Did}
use Rattle.c62_meaning.proofs.Lookup.{In}
use Rattle.c62_meaning.proofs.Runs.{the_run}
use Rattle.c62_pipe.specs.declared.slot.Due.{Due}
use Rattle.c62_pipe.specs.Flight.{Flight}
use Rattle.c62_pipe.proofs.Order.{Ascends}
use Rattle.c62_pipe.proofs.Slots.{due_in}
use Rattle.c62_pipe.proofs.Flying.{Flying}
use Rattle.c62_flight.proofs.Fronts.{Early}
use Rattle.c62_exec.proofs.InRow.{slot_of_all}
use Rattle.c62_trace.specs.Event.{Event, Entry, Landed, entries}
use Rattle.c62_trace.proofs.Events.{events_late}
use Rattle.c62_traced.specs.Trace.{cycle_log, log_from}
use Rattle.c62_traced.specs.Row.{landing_log, settling_log}
use Rattle.c62_traced.proofs.Ranges.{range_same}

-- what is told of writes that land in it
abbrev pub landed : ℕ → List Due → List Entry
landed cycle writes = entries cycle (map Landed writes)

-- that is all
pub late_log : (opening : Machine) (block : List Placed) (did : Did) (t : ℕ)
    → ((p : Placed) → In p block → p.cycle < t)
    → cycle_log entries block opening did t ≡ landed t (due_in did t block)
late_log opening block did t early =
    ap (λ (es : List Event). entries t es) (events_late opening t block did early)

module _ (opening : Machine) (block : List Placed) (ascends : Ascends block) where
  -- so are those of cycles in which what is in flight lands
  pub settled_log : (end upto : ℕ) (flight : Flight) (machine : Machine)
      → Flying block opening end (length block) upto flight machine → Early end block
      → settling_log end 4 flight.slots
      ≡ log_from entries block opening (the_run block opening) end 4
  settled_log end upto flight machine h early =
      range_same (λ t. landing_log t flight.slots)
      (cycle_log entries block opening (the_run block opening)) end 4
      (λ t from to. ap (λ slot. landed t slot)
      (slot_of_all block opening ascends end upto t flight machine h from (omega arith))
      ∙ sym (late_log opening block (the_run block opening) t
      (λ p k. let u : p.cycle < end = early p k in omega arith)))
