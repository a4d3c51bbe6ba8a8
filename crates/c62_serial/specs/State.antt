-- What the machine holds (docs/MACHINE.md, "Register files and units" and "Memory").
use Rattle.std.specs.Prelude.{◌≡◌, ℕ, ◌+◌, List, [], length, slice_index, slice_set, All, Option, Some, None}
use Rattle.std.specs.List.Sorted.{IsStrictlyIncreasing}
use Rattle.c62_op.specs.declared.register.Reg.{Reg}
use Rattle.c62_serial.specs.declared.state.TheConstants.{MEMORY_BYTES}
pub use Rattle.c62_op.specs.Register.{first_of, register_index as index_of}

-- the address at which memory begins, the words of A0 to A15 and B0 to B15, the bytes of memory, and the lines whose
-- accesses faulted
pub record Machine : Type 0 where
  pub base : ℕ
  pub registers : List ℕ
  pub memory : List ℕ
  pub faults : List ℕ

abbrev pub machine_of : ℕ → List ℕ → List ℕ → List ℕ → Machine
machine_of base registers memory faults = record { base = base; registers = registers; memory = memory; faults = faults }

-- a machine, and for how many more faulted lines there is room
pub record Contents : Type 0 where
  pub machine : Machine
  pub room : ℕ

-- how many lines have faulted or may, before room for more is made
abbrev pub line_capacity : Contents → ℕ
line_capacity state = length state.machine.faults + state.room

-- what holds of every state: each line that faulted stands once
pub record IsSound (machine : Machine) : Type 0 where
  pub registers : length machine.registers ≡ 32
  pub memory : length machine.memory ≡ MEMORY_BYTES
  pub rising : IsStrictlyIncreasing machine.faults

-- the machine before anything was set, its memory beginning at address 0
pub record IsZero (machine : Machine) : Type 0 where
  pub base : machine.base ≡ 0
  pub sound : IsSound machine
  pub words : All (λ word. word ≡ 0) machine.registers
  pub bytes : All (λ byte. byte ≡ 0) machine.memory
  pub faults : machine.faults ≡ []

abbrev pub word_in : Machine → Reg → ℕ
word_in machine reg = slice_index machine.registers (index_of reg)

-- the byte at a place, which is so many bytes behind the first
abbrev pub byte_in : Machine → ℕ → ℕ
byte_in machine place = slice_index machine.memory place

-- the machine with memory that begins at this address, and holds what it held
abbrev pub with_base : ℕ → Machine → Machine
with_base base machine = record machine { base = base }

-- the machine with this word in a register
abbrev pub with_word : Reg → ℕ → Machine → Machine
with_word reg value machine = record machine { registers = slice_set machine.registers (index_of reg) value }

-- the machine after a write, where there is one
abbrev pub with_write : Option (Reg × ℕ) → Machine → Machine
with_write None machine = machine
with_write (Some write) machine = with_word write.0 write.1 machine
