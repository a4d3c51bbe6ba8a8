-- What a row tells while the machine goes through its cycles.
use Rattle.std.specs.Prelude.{ℕ, map, zero, suc, ◌+◌, List, [], ◌++◌, Option, Some, None, is_some, if◌then◌else◌}
use Rattle.std.specs.List.{flat_map, range_with_len}
use Rattle.c62_insn.specs.declared.effect.Target.{Target}
use Rattle.c62_serial.specs.State.{Machine}
use Rattle.c62_packet.specs.declared.placed.Placed.{Placed}
use Rattle.c62_pipe.specs.Flight.{Slot, due}
use Rattle.c62_flight.specs.declared.stop.Stop.{Stop}
use Rattle.c62_exec.specs.declared.taken.Taken.TheVariants.{Nothing}
use Rattle.c62_exec.specs.Step.{Way, Issuing, issuing, issue_all, breach, clash_in, on_way, on_next, turn_in, with_turn}
use Rattle.c62_trace.specs.Event.{Entry, Landed, entries, events_at}

-- the events of a packet whose instructions are issued in a cycle
abbrev pub packet_log : Machine → ℕ → List Placed → List Entry
packet_log machine cycle insns = flat_map (λ p. entries cycle (events_at machine p)) insns

-- those of what lands in a cycle
abbrev pub landing_log : ℕ → List Slot → List Entry
landing_log cycle slots = entries cycle (map Landed (due slots cycle))

-- those of so many cycles from one on, in which nothing is issued
abbrev pub settling_log : (first count : ℕ) → List Slot → List Entry
settling_log first count slots = flat_map (λ cycle. landing_log cycle slots) (range_with_len first count)

-- those of the rest of a row behind a cycle of it, which may be broken, when so many idle ones are left
abbrev pub log_behind : Option Stop → ℕ → ℕ → Way → List Entry
log_behind (Some stop) idle cycle way = []
log_behind None zero cycle way = []
log_behind None (suc idle) cycle way =
    if is_some (turn_in (cycle + 1) way) then []
    else (landing_log (cycle + 1) (on_next cycle way).flight.slots
    ++ log_behind (clash_in (due (on_next cycle way).flight.slots (cycle + 1))) idle (cycle + 1) (on_next cycle way))

-- those of a row from the cycle of its issue on, when its instructions are issued
abbrev pub rest_log : ℕ → ℕ → List (Option Target) → Issuing → List Entry
rest_log idle cycle turns now =
    landing_log cycle now.flight.slots
    ++ log_behind (breach now.taken (due now.flight.slots cycle)) idle cycle (on_way now.flight (with_turn cycle now.taken turns) now.machine)

abbrev pub row_log : List Placed → ℕ → ℕ → Way → List Entry
row_log insns idle cycle way =
    packet_log way.machine cycle insns
    ++ rest_log idle cycle way.turns (issue_all cycle (issuing way.flight way.machine Nothing) insns)
