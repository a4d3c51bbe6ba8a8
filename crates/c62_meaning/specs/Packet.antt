-- What the instructions of a block of packets do, each in the cycle of its issue (docs/MACHINE.md, "Cycles and delays" and
-- "Memory"; SPRU189, "Pipeline Operation"). Nothing here goes from one cycle to the next.
use Rattle.std.specs.Prelude.{◌≡◌, ℕ, ◌+◌, ◌*◌, List, [], ◌∷◌, map, Contains, Option, Some, None, if◌then◌else◌}
use Rattle.std.specs.List.{flat_map}
use Rattle.c62_op.specs.declared.register.Reg.{Reg}
use Rattle.c62_insn.specs.declared.effect.Access.{Access as MemoryAccess}
use Rattle.c62_serial.specs.State.{Machine, index_of, word_in, byte_in}
use Rattle.c62_serial.specs.Memory.{is_good, bytes_of}
use Rattle.c62_serial.specs.Effect.{Act, act_of}
use Rattle.c62_packet.specs.declared.placed.Placed.{Placed}
use Rattle.c62_packet.specs.Packed.{listing_position}
use Rattle.c62_meaning.specs.Landing.{Landing, value_before}

-- what each instruction of a block did
abbrev pub Did : Type 0
Did = Placed → Act

-- ---- landings

-- a write of an instruction issued in this cycle lands after its delay
abbrev pub write_landing : ℕ → (Reg × ℕ) × ℕ → Landing
write_landing cycle write = record { cell = index_of write.0.0; time = cycle + write.0.1; value = write.1 }

-- bytes from an address on, all stored at one time
abbrev pub byte_landings : ℕ → ℕ → List ℕ → List Landing
byte_landings time address [] = []
byte_landings time address (byte ∷ bytes) = record { cell = address; time = time; value = byte } ∷ byte_landings time (address + 1) bytes

abbrev pub stored_landings : ℕ → ℕ → ℕ → Option ℕ → List Landing
stored_landings time address size None = []
stored_landings time address size (Some value) = if is_good address size then byte_landings time address (bytes_of size value) else []

-- the bytes that an access stores; a faulting one stores none
abbrev pub access_landings : ℕ → Option MemoryAccess → List Landing
access_landings time None = []
access_landings time (Some access) = stored_landings time access.address access.size access.value

-- when an access is made: in the order of the cycles of issue, and in a cycle in that of the eight units, .D1 before .D2
abbrev pub access_time : Placed → ℕ
access_time p = listing_position p

abbrev pub register_landings : Did → Placed → List Landing
register_landings did p = map (write_landing p.cycle) (did p).writes

abbrev pub memory_landings : Did → Placed → List Landing
memory_landings did p = access_landings (access_time p) (did p).access

-- ---- what instructions find

-- a register before a cycle: the executed write whose landing cycle is the greatest below it
abbrev pub word_before : List Placed → Machine → Did → ℕ → Reg → ℕ
word_before block opening did cycle reg =
    value_before (index_of reg) cycle (flat_map (register_landings did) block) (word_in opening reg)

-- a byte before a cycle: the last of the stores issued before it
abbrev pub byte_before : List Placed → Machine → Did → ℕ → ℕ → ℕ
byte_before block opening did cycle address =
    value_before address (8 * cycle) (flat_map (memory_landings did) block) (byte_in opening address)

-- each instruction did what the registers and bytes before its cycle make it do
abbrev pub IsRun : List Placed → Machine → Did → Type 0
IsRun block opening did = (p : Placed) → Contains block p
    → did p ≡ act_of p.insn opening.base (word_before block opening did p.cycle) (byte_before block opening did p.cycle)
