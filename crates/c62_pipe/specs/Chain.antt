-- Chains of packet blocks, each of which does what its packets mean (docs/REPORT.md, "Chains").
use Rattle.std.specs.Prelude.{◌≡◌, ℕ, ◌<◌, List, [], length, sum_by, slice_get, slice_index_or, Some, None, IsTrue}
use Rattle.c62_read.specs.Block.{Serial, branch_last, operations}
use Rattle.c62_serial.specs.declared.serial.Exit.{Exit}
use Rattle.c62_serial.specs.declared.chain.Chain.{Chain}
use Rattle.c62_serial.specs.State.{Machine, Contents, IsSound}
use Rattle.c62_serial.specs.Chain.{Blocks, Standing, IsChain, IsBlockStart, RunsProgram, chain_of}
use Rattle.c62_packet.specs.Packed.{Packed}
use Rattle.c62_meaning.specs.Meaning.{IsMeaning}
use Rattle.c62_meaning.specs.Laws.{IsPacked, cycles_of}

abbrev pub no_block : Packed
no_block = record { label = None; cycles = 0; placed = [] }

abbrev pub block_of : List Packed → ℕ → Packed
block_of packets number = slice_index_or packets number no_block

-- from this machine the packets leave that one, and go on there
abbrev pub Does : Packed → Machine → Machine → Exit → Type 0
Does block opening final exit = IsMeaning block.placed block.cycles opening (record { machine = final; exit = exit })

abbrev pub packet_blocks : List Packed → Blocks
packet_blocks packets number before ran = IsMeaning (block_of packets number).placed (block_of packets number).cycles before ran

-- the cycles of the blocks of these numbers
abbrev pub cycles_taken : List Packed → List ℕ → ℕ
cycles_taken packets numbers = sum_by (λ number. (block_of packets number).cycles) numbers

abbrev pub IsPacketChain : List Packed → Machine → ℕ → Standing → Type 0
IsPacketChain packets opening limit standing = IsChain (length packets) (packet_blocks packets) opening limit standing

-- two chains of packet blocks under a limit are one
abbrev pub HasOneChain : List Packed → Machine → ℕ → Type 0
HasOneChain packets opening limit =
    (one other : Standing) → IsPacketChain packets opening limit one → IsPacketChain packets opening limit other → one ≡ other

-- the chain under a limit is this one, takes so many cycles and leaves this machine
pub record RunsPackets (packets : List Packed) (opening : Machine) (limit : ℕ) (chain : Chain) (cycles : ℕ) (final : Machine) : Type 0 where
  pub standing : Standing
  pub whole : IsPacketChain packets opening limit standing
  pub told : chain ≡ chain_of standing
  pub taken : cycles ≡ cycles_taken packets standing.numbers
  pub left : final ≡ standing.machine

-- The run stopped at the start of a block for whose faults there was no room.
pub record LacksRoom (packets : List Packed) (opening : Machine) (limit : ℕ) (left : Contents) : Type 0 where
  pub number : ℕ
  pub start : IsBlockStart (length packets) (packet_blocks packets) opening limit number left.machine
  pub room : left.room < length (block_of packets number).placed

-- ---- packets of a program

-- packets hold the instructions of a block, each dependence at its distance, and take their own length
pub record IsBlockPacked (block : Serial) (packed : Packed) : Type 0 where
  pub branch_last : IsTrue (branch_last (operations block.insns))
  pub holds : IsPacked block.insns packed.placed
  pub cycles : packed.cycles ≡ cycles_of packed.placed

-- block by block the packets are those of the program
pub record ArePacked (program : List Serial) (packets : List Packed) : Type 0 where
  pub count : length packets ≡ length program
  pub each : (number : ℕ) (block : Serial) (packed : Packed) → slice_get program number ≡ Some block → slice_get packets number ≡ Some packed
      → IsBlockPacked block packed

-- from every sound machine, and under every limit, the packets run as the program does
pub record RunsAsProgram (program : List Serial) (packets : List Packed) (opening : Machine) (limit : ℕ) (chain : Chain) (final : Machine) : Type 0 where
  pub packed : RunsProgram program opening limit chain final → (cycles : ℕ) × RunsPackets packets opening limit chain cycles final
  pub serial : (cycles : ℕ) → RunsPackets packets opening limit chain cycles final → RunsProgram program opening limit chain final

-- packets of a program, in which every dependence keeps its distance, run as it does
abbrev pub RunsAlike : List Serial → List Packed → Machine → ℕ → Type 0
RunsAlike program packets opening limit =
    ArePacked program packets → IsSound opening → (chain : Chain) (final : Machine) → RunsAsProgram program packets opening limit chain final
