-- Accesses to memory: little endian, aligned by size, within 65,536 bytes (docs/MACHINE.md, "Memory"). An access lies at a
-- place: so many bytes behind the address at which memory begins. Where that is 0, places are addresses.
use Rattle.std.specs.Prelude.{ℕ, zero, suc, ◌+◌, ◌*◌, ◌/◌, ◌%◌, nat_le, Bool, ◌==◌, ◌&&◌, ◌||◌, List, [], ◌∷◌, ◌++◌, take, drop, Option, Some, None, if◌then◌else◌}
use Rattle.c62_op.specs.Word.{difference}
use Rattle.c62_insn.specs.declared.effect.Access.{Access as MemoryAccess}
use Rattle.c62_serial.specs.declared.state.TheConstants.{MEMORY_BYTES}
use Rattle.c62_serial.specs.State.{Machine}

abbrev pub is_size : ℕ → Bool
is_size size = size == 1 || size == 2 || size == 4

-- the place of an address in memory that begins at a base; what is below the base has none within memory
abbrev pub place_from : ℕ → ℕ → ℕ
place_from base address = difference address base

abbrev pub place_in : Machine → ℕ → ℕ
place_in machine address = place_from machine.base address

-- the access with its place for its address
abbrev pub placed_from : ℕ → Option MemoryAccess → Option MemoryAccess
placed_from base None = None
placed_from base (Some access) = Some (record access { address = place_from base access.address })

-- the access lies on its size and within memory; any other faults
abbrev pub is_good : ℕ → ℕ → Bool
is_good place size = place % size == 0 && nat_le (place + size) MEMORY_BYTES

-- bytes as a number, the lowest first
abbrev pub number_of : List ℕ → ℕ
number_of [] = 0
number_of (byte ∷ bytes) = byte + 256 * number_of bytes

-- so many low bytes of a number, the lowest first
abbrev pub bytes_of : ℕ → ℕ → List ℕ
bytes_of zero value = []
bytes_of (suc count) value = value % 256 ∷ bytes_of count (value / 256)

-- so many bytes from a place on
abbrev pub bytes_from : (ℕ → ℕ) → ℕ → ℕ → List ℕ
bytes_from byte place zero = []
bytes_from byte place (suc count) = byte place ∷ bytes_from byte (place + 1) count

-- what an access reads, of the bytes by their places
abbrev pub read : (ℕ → ℕ) → ℕ → ℕ → Option ℕ
read byte place size = if is_good place size then Some (number_of (bytes_from byte place size)) else None

-- memory with these bytes from a place on
abbrev pub put : ℕ → List ℕ → ℕ → List ℕ → List ℕ
put place bytes size memory = take place memory ++ bytes ++ drop (place + size) memory

-- memory after an access writes the low bytes of a value
abbrev pub written : ℕ → ℕ → ℕ → List ℕ → List ℕ
written place size value memory = if is_good place size then put place (bytes_of size value) size memory else memory

-- the machine after it
abbrev pub with_bytes : ℕ → ℕ → ℕ → Machine → Machine
with_bytes place size value machine = record machine { memory = written place size value machine.memory }
