-- The text of a dump (docs/WAVE.md, "Times" and "Changes").
use Rattle.std.specs.Prelude.{ℕ, ◌+◌, min, Bool, true, false, not, ◌==◌, ◌&&◌, ◌||◌, nat_lt, List, [], ◌∷◌, ◌++◌, codes, decimal, if◌then◌else◌}
use Rattle.c62_trace.specs.declared.view.Window.{Window}
use Rattle.c62_trace.specs.Line.{is_in}
use Rattle.c62_wave.specs.declared.value.Value.{Value}
use Rattle.c62_wave.specs.declared.value.Value.TheVariants.{Word}
use Rattle.c62_wave.specs.declared.signals.Signals.{Signals}
use Rattle.c62_wave.specs.Value.{is_same, value_text}
use Rattle.c62_wave.specs.Signals.{writes_in_flight, loads_in_flight, branches_in_flight}

-- ---- changes

-- `b1010 &`
abbrev pub value_line : ℕ → Value → List ℕ
value_line code value = value_text value ++ codes " " ++ code ∷ codes "\n"

-- a signal whose value was another before, or each of them
unfoldable pub change : (each : Bool) → (code : ℕ) → (before now : Value) → List ℕ
change each code before now = if each || not (is_same before now) then value_line code now else []

-- signals whose codes follow on each other
abbrev pub changes : (each : Bool) → (code : ℕ) → (before now : List Value) → List ℕ
changes each code (was ∷ before) (is ∷ now) = change each code was is ++ changes each (code + 1) before now
changes each code before now = []

-- of the signals that change when the clock rises
unfoldable pub rising_changes : (each : Bool) → (before now : Signals) → List ℕ
rising_changes each before now =
    change each 38 before.line now.line
    ++ change each 39 (Word before.packets) (Word now.packets)
    ++ changes each 40 before.units now.units
    ++ change each 48 (Word (writes_in_flight before)) (Word (writes_in_flight now))
    ++ change each 49 (Word (loads_in_flight before)) (Word (loads_in_flight now))
    ++ change each 50 (Word (branches_in_flight before)) (Word (branches_in_flight now))

-- of those that change when it falls
unfoldable pub falling_changes : (each : Bool) → (before now : Signals) → List ℕ
falling_changes each before now =
    changes each 51 before.registers now.registers
    ++ change each 83 before.store_address now.store_address
    ++ change each 84 before.store_data now.store_data

-- ---- times

-- ten times the cycle and so many more, as its digits have it: `#420`, and `#425` when the clock falls
unfoldable pub time_line : (cycle more : ℕ) → List ℕ
time_line cycle more = codes "#" ++ decimal cycle ++ (48 + more) ∷ codes "\n"

-- the clock rises; in the first cycle that is seen all signals are told, and those that change when it falls as they were
unfoldable pub rise : (first : Bool) → (cycle : ℕ) → (before now : Signals) → List ℕ
rise first cycle before now =
    if first
    then time_line cycle 0 ++ codes "$dumpvars\n" ++ codes "1!\n" ++ rising_changes true before now
    ++ falling_changes true before before ++ codes "$end\n"
    else time_line cycle 0 ++ codes "1!\n" ++ rising_changes false before now

unfoldable pub fall : (cycle : ℕ) → (before now : Signals) → List ℕ
fall cycle before now = time_line cycle 5 ++ codes "0!\n" ++ falling_changes false before now

-- a cycle, where it is seen
unfoldable pub cycle_text : Window → (cycle : ℕ) → (before now : Signals) → List ℕ
cycle_text window cycle before now =
    if is_in window cycle then rise (cycle == window.from) cycle before now ++ fall cycle before now else []

-- the time behind so many cycles, or behind the last that is seen, where one is seen
unfoldable pub last_mark : Window → ℕ → List ℕ
last_mark window cycles =
    if is_in window window.from && nat_lt window.from cycles then time_line (min cycles (window.from + window.count)) 0 else []
