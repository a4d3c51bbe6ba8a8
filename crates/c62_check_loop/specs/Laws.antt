-- What follows where a loop is told to be `same` (docs/CHECK.md, "Pipelined loops").
use Rattle.std.specs.Prelude.{◌≡◌, ◌⊎◌, ℕ, ◌+◌, ◌^◌, ◌<◌, ◌≤◌, Bool, false, not, ◌&&◌, List, Contains, IsTrue, IsFalse}
use Rattle.c62_op.specs.declared.register.Reg.{Reg}
use Rattle.c62_op.specs.declared.operands.Operands.{Operands}
use Rattle.c62_op.specs.declared.operands.Operands.TheVariants.{Access}
use Rattle.c62_op.specs.Shape.{is_store}
use Rattle.c62_insn.specs.declared.insn.Insn.{Insn}
use Rattle.c62_insn.specs.Insn.{op_of, operands_of}
use Rattle.c62_pair.specs.declared.reg_set.RegSet.{RegSet}
use Rattle.c62_pair.specs.RegSet.{reg_in}
use Rattle.c62_read.specs.declared.block.SerialInsn.{SerialInsn}
use Rattle.c62_serial.specs.State.{Machine, IsSound, word_in}
use Rattle.c62_serial.specs.Serial.{serial}
use Rattle.c62_flight.specs.Text.{Text}
use Rattle.c62_flight.specs.Cut.{IsCut}
use Rattle.c62_loop.specs.Loop.{Region, Pipelined, serial_path, trips_of, last_row}
use Rattle.c62_loop.specs.Past.{with_past}
use Rattle.c62_loop.specs.Whole.{AreApart}
use Rattle.c62_check_loop.specs.Told.{IsSame, IsSameBut}
use Rattle.c62_check_loop.specs.Relined.{AreRelined}

-- From every sound machine that comes to the label with at least the trips that are told in the counter, and of which the promise holds, the
-- packets come from the first row of the loop to the last, which is the row behind it, with nothing in flight, and have left the registers, memory and faulted lines of the serial
-- loop. A trip more takes as many cycles more as are told.
pub record DoesTheSame (promised : Insn → Insn → Bool) (region : Region) (packets : Text) (trips cycles first last : ℕ) : Type 0 where
  pub loop : Pipelined
  pub relined : AreRelined packets loop.text
  pub first_is : first ≡ loop.first
  pub last_is : last ≡ last_row loop
  pub takes : ℕ → ℕ
  pub one_more : (count : ℕ) → trips ≤ count → takes (count + 1) ≡ takes count + cycles
  pub leaves : (opening : Machine) (count : ℕ) → IsSound opening → trips_of region opening ≡ count → trips ≤ count → count < 2 ^ 32
      → AreApart promised region count opening → (more : ℕ)
      → IsCut loop.text loop.first (takes count + more) opening (last_row loop) (takes count) (serial (serial_path region count) opening).machine

abbrev pub SameIsSerial : (Insn → Insn → Bool) → Region → Text → (trips cycles first last : ℕ) → Type 0
SameIsSerial promised region packets trips cycles first last =
    IsSame promised region packets trips cycles first last → DoesTheSame promised region packets trips cycles first last

-- ---- but for what is named

-- a load into one of these registers
abbrev pub loads_into : RegSet → Operands → Bool
loads_into but (Access register _ _ _) = reg_in but register
loads_into but operands = false

abbrev pub may_fault : RegSet → SerialInsn → Bool
may_fault but entry = not (is_store (op_of entry.insn)) && loads_into but (operands_of entry.insn)

-- memory is as it was, from where it begins on, and so are all registers but these; the faulted lines are those that were, and lines of loads of the loop's block into these
pub record IsSameButFor (but : RegSet) (block : List SerialInsn) (before after : Machine) : Type 0 where
  pub base : after.base ≡ before.base
  pub memory : after.memory ≡ before.memory
  pub words : (reg : Reg) → IsFalse (reg_in but reg) → word_in after reg ≡ word_in before reg
  pub kept : (line : ℕ) → Contains before.faults line → Contains after.faults line
  pub faults : (line : ℕ) → Contains after.faults line
      → Contains before.faults line ⊎ ((entry : SerialInsn) × Contains block entry × IsTrue (may_fault but entry) × (entry.line ≡ line))

-- As above, but for these registers and such lines. The promise has to hold with this work of iterations past the last behind the serial run, too.
pub record DoesTheSameBut (promised : Insn → Insn → Bool) (region : Region) (packets : Text) (trips cycles first last : ℕ) (but : RegSet) : Type 0 where
  pub loop : Pipelined
  pub past : List SerialInsn
  pub relined : AreRelined packets loop.text
  pub first_is : first ≡ loop.first
  pub last_is : last ≡ last_row loop
  pub takes : ℕ → ℕ
  pub one_more : (count : ℕ) → trips ≤ count → takes (count + 1) ≡ takes count + cycles
  pub leaves : (opening : Machine) (count : ℕ) → IsSound opening → trips_of region opening ≡ count → trips ≤ count → count < 2 ^ 32
      → AreApart promised (with_past region past) count opening
      → (after : Machine) × IsSameButFor but region.body (serial (serial_path region count) opening).machine after
      × ((more : ℕ) → IsCut loop.text loop.first (takes count + more) opening (last_row loop) (takes count) after)

abbrev pub SameButIsSerial : (Insn → Insn → Bool) → Region → Text → (trips cycles first last : ℕ) → RegSet → Type 0
SameButIsSerial promised region packets trips cycles first last but =
    IsSameBut promised region packets trips cycles first last but → DoesTheSameBut promised region packets trips cycles first last but
