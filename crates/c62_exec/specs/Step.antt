-- What the machine does from one cycle to the next with what is in flight (docs/EXEC.md).
use Rattle.std.specs.Prelude.{ℕ, zero, suc, ◌+◌, ◌-◌, ◌<◌, ◌%◌, List, [], ◌∷◌, length, fold, find, slice_set, slice_index_or, Option, Some, None, option_map, is_some, if◌then◌else◌}
use Rattle.std.specs.Option.{option_or}
use Rattle.c62_op.specs.declared.register.Reg.{Reg}
use Rattle.c62_op.specs.Takes.{same_reg}
use Rattle.c62_insn.specs.declared.effect.Target.{Target}
use Rattle.c62_serial.specs.State.{Machine}
use Rattle.c62_packet.specs.declared.placed.Placed.{Placed}
use Rattle.c62_pipe.specs.declared.slot.Due.{Due}
use Rattle.c62_pipe.specs.Flight.{Slot, Flight, due, FitsWrites, act_at, issued, after_issue, at_end, after_end}
use Rattle.c62_flight.specs.declared.stop.Stop.{Stop}
use Rattle.c62_flight.specs.declared.stop.Stop.TheVariants.{Clash, Branches}
use Rattle.c62_exec.specs.declared.run.Flown.{Flown}
use Rattle.c62_exec.specs.declared.taken.Taken.{Taken}
use Rattle.c62_exec.specs.declared.taken.Taken.TheVariants.{Nothing, One, Two}
use Rattle.c62_exec.specs.declared.underway.Passed.{Passed}
use Rattle.c62_exec.specs.declared.underway.Passed.TheVariants.{Over, Broken}

-- ---- writes that clash

-- the clash of a write with the first of others that writes its register
abbrev pub met_in : Due → Slot → Option Stop
met_in write others = option_map (λ other. Clash write.reg write.line other.line) (find (λ other. same_reg other.reg write.reg) others)

-- that of the first write that is met by one behind it
abbrev pub clash_in : Slot → Option Stop
clash_in [] = None
clash_in (write ∷ others) = option_or (met_in write others) (clash_in others)

-- the first in so many cycles from one on, and the cycle
abbrev pub clash_from : ℕ → ℕ → List Slot → Option (ℕ × Stop)
clash_from zero cycle slots = None
clash_from (suc count) cycle slots = option_or (option_map (λ stop. (cycle, stop)) (clash_in (due slots cycle))) (clash_from count (cycle + 1) slots)

-- ---- a packet is issued

-- the branches that ran, with an instruction more
abbrev pub taken_with : Taken → Option Target → ℕ → Taken
taken_with taken None line = taken
taken_with Nothing (Some target) line = One target line
taken_with (One target first) (Some other) line = Two first line
taken_with (Two first second) (Some other) line = Two first second

-- what is in flight, the machine and the branches that ran, when some of the packet's instructions are issued
pub record Issuing : Type 0 where
  pub flight : Flight
  pub machine : Machine
  pub taken : Taken

abbrev pub issuing : Flight → Machine → Taken → Issuing
issuing flight machine taken = record { flight = flight; machine = machine; taken = taken }

abbrev pub issue_one : ℕ → Issuing → Placed → Issuing
issue_one cycle now p = record {
  flight = issued cycle p.line (act_at p now.machine) now.flight;
  machine = after_issue p now.machine;
  taken = taken_with now.taken (act_at p now.machine).target p.line;
}

abbrev pub issue_all : ℕ → Issuing → List Placed → Issuing
issue_all cycle now insns = fold (issue_one cycle) now insns

-- there is room for what each of them puts in flight
abbrev pub Fit : ℕ → List Placed → Flight → Machine → Type 0
Fit cycle [] flight machine = Unit {0}
Fit cycle (p ∷ insns) flight machine =
    (length flight.stores < 8) × FitsWrites cycle p (act_at p machine) flight × Fit cycle insns (issued cycle p.line (act_at p machine) flight) (after_issue p machine)

-- what breaks the cycle of a packet's issue: two of its branches, or else writes that land in it
abbrev pub breach : Taken → Slot → Option Stop
breach (Two first second) slot = Some (Branches first second)
breach taken slot = clash_in slot

-- its branch is in flight, by the place of the cycle in which it takes effect
abbrev pub with_turn : ℕ → Taken → List (Option Target) → List (Option Target)
with_turn cycle (One target line) turns = slice_set turns (cycle % 6) (Some target)
with_turn cycle taken turns = turns

-- ---- cycles

-- a machine on its way: writes, stores and branches in flight, and its state
pub record Way : Type 0 where
  pub flight : Flight
  pub turns : List (Option Target)
  pub machine : Machine

abbrev pub on_way : Flight → List (Option Target) → Machine → Way
on_way flight turns machine = record { flight = flight; turns = turns; machine = machine }

-- a cycle ends: stores are made, and what is due lands
abbrev pub ended_cycle : ℕ → Way → Way
ended_cycle cycle way = record { flight = after_end cycle way.flight; turns = way.turns; machine = at_end cycle way.flight way.machine }

-- so do so many from one on
abbrev pub settled : ℕ → ℕ → Way → Way
settled zero cycle way = way
settled (suc count) cycle way = settled count (cycle + 1) (ended_cycle cycle way)

-- where the branch goes that takes effect in a cycle, if one does
abbrev pub turn_in : ℕ → Way → Option Target
turn_in cycle way = slice_index_or way.turns (cycle % 6) None

-- a cycle ends, and the branch is no more in flight that takes effect in the next
abbrev pub on_next : ℕ → Way → Way
on_next cycle way = record { flight = after_end cycle way.flight; turns = slice_set way.turns ((cycle + 1) % 6) None; machine = at_end cycle way.flight way.machine }

-- ---- rows

-- the cycle in which it was over, or which was broken
abbrev pub end_of : Passed → ℕ
end_of (Over end turned) = end
end_of (Broken cycle stop) = cycle

-- how a row went, and how the machine is then
pub record Gone : Type 0 where
  pub passed : Passed
  pub way : Way

abbrev pub gone : Passed → Way → Gone
gone passed way = record { passed = passed; way = way }

-- the rest of a row from a cycle on, of which so many idle ones are left, and which may be broken
abbrev pub row_goes : Option Stop → ℕ → ℕ → Way → Gone
row_goes (Some stop) idle cycle way = gone (Broken cycle stop) (ended_cycle cycle way)
row_goes None zero cycle way = gone (Over (cycle + 1) (turn_in (cycle + 1) way)) (on_next cycle way)
row_goes None (suc idle) cycle way =
    if is_some (turn_in (cycle + 1) way) then gone (Over (cycle + 1) (turn_in (cycle + 1) way)) (on_next cycle way)
    else row_goes (clash_in (due (on_next cycle way).flight.slots (cycle + 1))) idle (cycle + 1) (on_next cycle way)

-- the cycles of a row when its instructions are issued
abbrev pub rest_of_row : ℕ → ℕ → List (Option Target) → Issuing → Gone
rest_of_row idle cycle turns now = row_goes (breach now.taken (due now.flight.slots cycle)) idle cycle (on_way now.flight (with_turn cycle now.taken turns) now.machine)

abbrev pub row_passes : List Placed → ℕ → ℕ → Way → Gone
row_passes insns idle cycle way = rest_of_row idle cycle way.turns (issue_all cycle (issuing way.flight way.machine Nothing) insns)

-- ---- the stop

-- so a run stops in a cycle, or by the first clash of what still lands, of which no cycle counts
abbrev pub flown_from : Stop → ℕ → Option (ℕ × Stop) → Flown
flown_from stop end None = record { stop = stop; cycles = end }
flown_from stop end (Some clash) = record { stop = clash.1; cycles = end }
