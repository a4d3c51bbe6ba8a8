-- What the definitions of memory, faults and runs amount to, as laws above them.
use Rattle.std.specs.Prelude.{◌≡◌, ◌≢◌, ◌⊎◌, ◌↔◌, ℕ, ◌+◌, ◌-◌, ◌*◌, ◌/◌, ◌%◌, ◌^◌, ◌<◌, ◌≤◌, nat_lt, nat_le, true, false, ◌&&◌, List, [], ◌∷◌, ◌++◌, length, slice_index, Contains, Option, Some, None, unwrap_or, if◌then◌else◌, IsTrue}
use Rattle.std.specs.Option.{option_or}
use Rattle.std.specs.List.Sorted.{IsStrictlyIncreasing}
use Rattle.c62_op.specs.declared.register.Reg.{Reg}
use Rattle.c62_insn.specs.declared.effect.Access.{Access as MemoryAccess}
use Rattle.c62_op.specs.Takes.{same_reg}
use Rattle.c62_read.specs.declared.block.SerialInsn.{SerialInsn}
use Rattle.c62_read.specs.Block.{Serial}
use Rattle.c62_serial.specs.declared.state.TheConstants.{MEMORY_BYTES}
use Rattle.c62_serial.specs.declared.serial.Exit.TheVariants.{Next}
use Rattle.c62_serial.specs.State.{Machine, word_in, byte_in, with_word}
use Rattle.c62_serial.specs.Memory.{is_good, is_size, place_from, read, written}
use Rattle.c62_serial.specs.Faults.{joined}
use Rattle.c62_serial.specs.Effect.{Act, runs, is_fault}
use Rattle.c62_serial.specs.Serial.{Ran, after_act, after_insn, serial}
use Rattle.c62_serial.specs.Chain.{Standing, IsProgramChain}

-- this holds where so many bytes may be stored at an address of memory
abbrev pub IfStorable : List ℕ → ℕ → ℕ → Type 0 → Type 0
IfStorable memory address size Holds = length memory ≡ MEMORY_BYTES → IsTrue (is_good address size) → Holds

-- memory after a store: its bytes stand in it, the lowest first, and all others are as they were
pub record StoresItsBytes (memory : List ℕ) (address size value : ℕ) : Type 0 where
  pub size_stays : length (written address size value memory) ≡ length memory
  pub inside : (offset : ℕ) → offset < size → slice_index (written address size value memory) (address + offset) ≡ value / 256 ^ offset % 256
  pub outside : (other : ℕ) → (other < address) ⊎ (address + size ≤ other)
      → slice_index (written address size value memory) other ≡ slice_index memory other

-- a load of what was stored gives its low bytes, of each size
abbrev pub LoadsWhatWasStored : List ℕ → ℕ → ℕ → ℕ → Type 0
LoadsWhatWasStored memory address size value =
    IsTrue (is_size size) → read (λ byte. slice_index (written address size value memory) byte) address size ≡ Some (value % 2 ^ (8 * size))

-- a stored word is its four bytes, stored one by one
abbrev pub StoresWordAsBytes : List ℕ → ℕ → ℕ → Type 0
StoresWordAsBytes memory address value =
    written address 4 value memory
    ≡ written (address + 3) 1 (value / 2 ^ 24) (written (address + 2) 1 (value / 2 ^ 16) (written (address + 1) 1 (value / 2 ^ 8) (written address 1 value memory)))

-- where memory begins at a multiple of 4 and ends by 2^32, an access is good that lies on its size and within it by its address
abbrev pub LiesByItsAddress : (base address size : ℕ) → Type 0
LiesByItsAddress base address size = base % 4 ≡ 0 → base + MEMORY_BYTES ≤ 2 ^ 32 → address < 2 ^ 32 → IsTrue (is_size size)
    → IsTrue (is_good (place_from base address) size)
    ↔ ((address % size ≡ 0) × (base ≤ address) × (address + size ≤ base + MEMORY_BYTES))

-- a register holds the word that was put into it, and each other one its own
pub record HoldsItsWord (machine : Machine) (reg : Reg) (value : ℕ) : Type 0 where
  pub held : word_in (with_word reg value machine) reg ≡ value
  pub others : (other : Reg) → other ≢ reg → word_in (with_word reg value machine) other ≡ word_in machine other

-- a line joins rising lines: they still rise, and hold it and what they held
pub record JoinsLines (lines : List ℕ) (line : ℕ) : Type 0 where
  pub rising : IsStrictlyIncreasing (joined line lines)
  pub holds : (other : ℕ) → Contains (joined line lines) other ↔ ((other ≡ line) ⊎ Contains lines other)

-- the machines hold the same words and bytes, and the same lines faulted; their memory begins at one address
pub record HoldsTheSame (one other : Machine) : Type 0 where
  pub base : one.base ≡ other.base
  pub words : (reg : Reg) → word_in one reg ≡ word_in other reg
  pub bytes : (address : ℕ) → address < MEMORY_BYTES → byte_in one address ≡ byte_in other address
  pub faults : (line : ℕ) → Contains one.faults line ↔ Contains other.faults line

-- the last value of these writes to a register, where one of them writes it
abbrev pub last_written : Reg → List ((Reg × ℕ) × ℕ) → Option ℕ
last_written reg [] = None
last_written reg (write ∷ writes) =
    option_or (last_written reg writes) (if same_reg write.0.0 reg then Some write.1 else None)

-- the byte that a store of this value puts so far from its address on
abbrev pub stored_byte : ℕ → ℕ → ℕ
stored_byte value offset = value / 256 ^ offset % 256

-- the byte that an access stores at an address, where it stores one there
abbrev pub stored_by : ℕ → ℕ → Option ℕ → ℕ → Option ℕ
stored_by start size None address = None
stored_by start size (Some value) address =
    if is_good start size && nat_le start address && nat_lt address (start + size)
    then Some (stored_byte value (address - start)) else None

abbrev pub stored_at : Option MemoryAccess → ℕ → Option ℕ
stored_at None address = None
stored_at (Some access) address = stored_by access.address access.size access.value address

-- After what an instruction of this line did each register holds the last of its writes, each byte what was stored
-- there, else what they held, and the line is among the faulted ones where its access faulted.
pub record ActsOnEach (line : ℕ) (act : Act) (machine : Machine) : Type 0 where
  pub words : (reg : Reg)
      → word_in (after_act line act machine) reg ≡ unwrap_or (last_written reg act.writes) (word_in machine reg)
  pub bytes : (address : ℕ)
      → byte_in (after_act line act machine) address ≡ unwrap_or (stored_at act.access address) (byte_in machine address)
  pub faults : (other : ℕ) → Contains (after_act line act machine).faults other
      ↔ (((is_fault act.access ≡ true) × (other ≡ line)) ⊎ Contains machine.faults other)

-- an instruction whose condition does not hold does nothing
abbrev pub DoesNothing : Ran → SerialInsn → Type 0
DoesNothing ran entry = runs (word_in ran.machine) entry.insn ≡ false → after_insn ran entry ≡ ran

-- a run is that of the first instructions, and where no branch left it, that of the others from there
pub record RunsInTurn (first rest : List SerialInsn) (machine : Machine) : Type 0 where
  pub on : (serial (first ++ rest) machine).machine ≡ (serial rest (serial first machine).machine).machine
  pub unless_left : (serial first machine).exit ≡ Next → serial (first ++ rest) machine ≡ serial rest (serial first machine).machine

-- two chains of a program under a limit are one
abbrev pub HasOneChain : List Serial → Machine → ℕ → Type 0
HasOneChain program opening limit =
    (one other : Standing) → IsProgramChain program opening limit one → IsProgramChain program opening limit other → one ≡ other
