-- What a dump shows, as laws above its definition: of registers by the writes that land, of changes by what they leave out, of
-- times, and of what is in flight.
use Rattle.std.specs.Prelude.{◌≡◌, ◌↔◌, ℕ, zero, suc, nat_lt, ◌+◌, ◌*◌, ◌==◌, false, List, [], ◌∷◌, ◌++◌, codes, decimal, slice_index, slice_index_or, if◌then◌else◌}
use Rattle.c62_op.specs.declared.register.Reg.{Reg}
use Rattle.c62_op.specs.Register.{register_index}
use Rattle.c62_trace.specs.Event.{Event, Entry, Landed}
use Rattle.c62_wave.specs.declared.value.Value.{Value}
use Rattle.c62_wave.specs.declared.value.Value.TheVariants.{Word, Unknown}
use Rattle.c62_wave.specs.declared.signals.Recent.{Recent}
use Rattle.c62_wave.specs.Signals.{one_more, a_cycle_on, in_four, in_five}
use Rattle.c62_wave.specs.Dump.{changes, time_line}
use Rattle.c62_wave.specs.Wave.{opening_course, course_after}

-- ---- registers

-- the word in a register after an event, where it was this before
abbrev pub word_after : Reg → ℕ → Event → ℕ
word_after reg word (Landed write) = if register_index write.reg == register_index reg then write.word else word
word_after reg word event = word

-- and after a log: that of the last write that landed in it
abbrev pub last_word : Reg → ℕ → List Entry → ℕ
last_word reg word [] = word
last_word reg word (entry ∷ log) = last_word reg (word_after reg word entry.1) log

-- what is shown of a register is what landed in it last, or what it held when the run began
abbrev pub ShowsRegister : (base : ℕ) → List ℕ → List Entry → Reg → Type 0
ShowsRegister base registers log reg =
    slice_index_or (course_after log (opening_course base registers)).now.registers (register_index reg) Unknown
    ≡ Word (last_word reg (slice_index registers (register_index reg)) log)

-- ---- changes

-- nothing is written of signals exactly where all of them show what they showed
abbrev pub LeavesOut : (code : ℕ) → (before now : List Value) → Type 0
LeavesOut code before now = (changes false code before now ≡ []) ↔ (before ≡ now)

-- ---- times

-- a time is ten times the cycle and so many more, as one number
abbrev pub IsTime : (cycle more : ℕ) → Type 0
IsTime cycle more = time_line cycle more ≡ codes "#" ++ decimal (10 * cycle + more) ++ codes "\n"

-- ---- in flight

-- so many cycles later, where nothing more is issued
abbrev pub cycles_on : ℕ → Recent → Recent
cycles_on zero recent = recent
cycles_on (suc more) recent = cycles_on more (a_cycle_on recent)

-- one more that is issued is in flight in the cycle of its issue and in those behind it, four or five in all
pub record StaysInFlight (recent : Recent) : Type 0 where
  pub four : (later : ℕ) → in_four (cycles_on later (one_more recent))
      ≡ in_four (cycles_on later recent) + (if nat_lt later 4 then 1 else 0)
  pub five : (later : ℕ) → in_five (cycles_on later (one_more recent))
      ≡ in_five (cycles_on later recent) + (if nat_lt later 5 then 1 else 0)
