-- The signals of a dump, and what each event of a run does to them (docs/WAVE.md, "Signals").
use Rattle.std.specs.Prelude.{ℕ, ◌+◌, ◌*◌, ◌%◌, ◌^◌, ◌==◌, List, map, replicate, slice_set, if◌then◌else◌}
use Rattle.c62_op.specs.declared.register.Unit.{Unit as FunctionalUnit}
use Rattle.c62_op.specs.Shape.{delay_of}
use Rattle.c62_op.specs.Units.{index_of as unit_index}
use Rattle.c62_op.specs.Register.{register_index}
use Rattle.c62_op.specs.Word.{sum}
use Rattle.c62_insn.specs.Insn.{op_of}
use Rattle.c62_pipe.specs.declared.slot.Due.{Due}
use Rattle.c62_trace.specs.Event.{Event, Issued, Skipped, Stored, Landed}
use Rattle.c62_wave.specs.declared.value.Value.{Value}
use Rattle.c62_wave.specs.declared.value.Value.TheVariants.{Word, Idle, Unknown}
use Rattle.c62_wave.specs.declared.signals.Recent.{Recent}
use Rattle.c62_wave.specs.declared.signals.Signals.{Signals}

-- ---- in flight

abbrev pub none_issued : Recent
none_issued = record { now = 0; one_ago = 0; two_ago = 0; three_ago = 0; four_ago = 0 }

-- one more is issued in the cycle
abbrev pub one_more : Recent → Recent
one_more recent = record recent { now = (recent.now + 1) % 256 }

-- the next cycle begins
abbrev pub a_cycle_on : Recent → Recent
a_cycle_on recent = record {
  now = 0;
  one_ago = recent.now;
  two_ago = recent.one_ago;
  three_ago = recent.two_ago;
  four_ago = recent.three_ago;
}

-- how many were issued in this cycle and the three before it: what has four delay slots is in flight in them
abbrev pub in_four : Recent → ℕ
in_four recent = recent.now + recent.one_ago + recent.two_ago + recent.three_ago

abbrev pub in_five : Recent → ℕ
in_five recent = in_four recent + recent.four_ago

-- the results of multiplies and of loads
abbrev pub writes_in_flight : Signals → ℕ
writes_in_flight signals = signals.multiplies + in_four signals.loads

abbrev pub loads_in_flight : Signals → ℕ
loads_in_flight signals = in_four signals.loads

abbrev pub branches_in_flight : Signals → ℕ
branches_in_flight signals = in_five signals.branches

-- ---- events

-- before a run, whose registers have these words
abbrev pub opening_signals : List ℕ → Signals
opening_signals registers = record {
  line = Idle;
  packets = 0;
  units = replicate 8 Idle;
  multiplies = 0;
  loads = none_issued;
  branches = none_issued;
  registers = map Word registers;
  store_address = Unknown;
  store_data = Unknown;
}

-- an instruction of this line is issued, of which the first begins a packet
abbrev pub in_packet : ℕ → Value → Signals → Signals
in_packet line Idle signals = record signals { line = Word line; packets = (signals.packets + 1) % 2 ^ 32 }
in_packet line begun signals = signals

abbrev pub on_unit : ℕ → FunctionalUnit → Signals → Signals
on_unit line unit signals = record signals { units = slice_set signals.units (unit_index unit) (Word line) }

unfoldable pub put_on : ℕ → FunctionalUnit → Signals → Signals
put_on line unit signals = on_unit line unit (in_packet line signals.line signals)

-- it runs, and its result comes after this delay: multiplies have 1, loads 4, and branches 5
unfoldable pub started : ℕ → Signals → Signals
started delay signals =
    if delay == 1 then record signals { multiplies = (signals.multiplies + 1) % 256 }
    else if delay == 4 then record signals { loads = one_more signals.loads }
    else if delay == 5 then record signals { branches = one_more signals.branches }
    else signals

-- so many low bytes of a value are stored at an address
unfoldable pub stored : (address size value : ℕ) → Signals → Signals
stored address size value signals =
    record signals { store_address = Word address; store_data = Word (value % 2 ^ (8 * size)) }

unfoldable pub landed : Due → Signals → Signals
landed write signals = record signals { registers = slice_set signals.registers (register_index write.reg) (Word write.word) }

-- what an event does, where memory begins at a base
abbrev pub with_event : ℕ → Signals → Event → Signals
with_event base signals (Issued line unit insn reads access) = started (delay_of (op_of insn)) (put_on line unit signals)
with_event base signals (Skipped line unit insn reads) = put_on line unit signals
with_event base signals (Stored line place size value) = stored (sum base place) size value signals
with_event base signals (Landed write) = landed write signals

-- the next cycle begins, in which nothing is issued yet
unfoldable pub next_cycle : Signals → Signals
next_cycle signals = record signals {
  line = Idle;
  units = replicate 8 Idle;
  multiplies = 0;
  loads = a_cycle_on signals.loads;
  branches = a_cycle_on signals.branches;
}
