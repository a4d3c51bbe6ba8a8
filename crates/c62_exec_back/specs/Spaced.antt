-- Blocks of packets laid out as the rows of a text, with rows without instructions before, between and behind them (docs/EXEC.md,
-- "What holds").
use Rattle.std.specs.Prelude.{◌≡◌, ℕ, ◌+◌, ◌-◌, ◌<◌, ◌≤◌, List, [], length, slice_get, All, Contains, Some}
use Rattle.c62_op.specs.declared.operands.Operands.TheVariants.{Block as ToBlock}
use Rattle.c62_insn.specs.Insn.{operands_of}
use Rattle.c62_serial.specs.State.{Machine, IsSound}
use Rattle.c62_serial.specs.Chain.{Standing, IsChain}
use Rattle.c62_packet.specs.declared.placed.Placed.{Placed}
use Rattle.c62_packet.specs.Packed.{Packed, IsPacketBlock}
use Rattle.c62_flight.specs.Text.{Text, row_of, aim_of}
use Rattle.c62_flight.specs.Laid.{IsLaid, straight_end, packet_blocks, cycles_taken, FliesAs, IsOutside}

-- the rows from one on as far as another have no instruction
abbrev pub AreIdle : Text → ℕ → ℕ → Type 0
AreIdle text row next = (number : ℕ) → row ≤ number → number < next → (row_of text number).insns ≡ []

-- The blocks are laid out one behind the other, each as so many rows from one on; what stands before, between and behind them is idle,
-- and takes as many cycles as the next block leads its rows by, or more. A branch goes to the first row of the block of its number, which
-- begins with it.
pub record AreSpaced (text : Text) (packets : List Packed) : Type 0 where
  pub row : ℕ → ℕ
  pub count : ℕ → ℕ
  pub lead : ℕ → ℕ
  pub laid : (number : ℕ) (block : Packed) → slice_get packets number ≡ Some block → IsLaid text block (row number) (count number) (lead number)
  pub first : AreIdle text 0 (row 0)
  pub next : (number : ℕ) → number < length packets → row number + count number ≤ row (number + 1)
  pub idle : (number : ℕ) → number < length packets → AreIdle text (row number + count number) (row (number + 1))
  pub last : row (length packets) ≡ length text.rows
  pub begun : lead 0 ≡ 0
  pub gaps : (number : ℕ) (block : Packed) → slice_get packets number ≡ Some block
      → block.cycles + lead (number + 1) ≤ lead number + straight_end text (row number) 0 (row (number + 1) - row number)
  pub targets : (number other : ℕ) (block : Packed) (p : Placed) → slice_get packets number ≡ Some block → Contains block.placed p
      → operands_of p.insn ≡ ToBlock other → other < length packets → lead other ≡ 0
  pub aims : (number : ℕ) → number < length packets → aim_of text number ≡ row number
  pub outside : (number : ℕ) → length packets ≤ number → aim_of text number ≡ length text.rows

-- packets of blocks, laid out so, fly as their chain
abbrev pub SpacedFlies : Text → List Packed → Type 0
SpacedFlies text packets = AreSpaced text packets → All IsPacketBlock packets → (opening : Machine) (limit : ℕ) (standing : Standing) → IsSound opening
    → IsChain (length packets) (packet_blocks packets) opening limit standing → IsOutside text standing.position
    → FliesAs text 0 opening standing.position standing.machine (cycles_taken packets standing.numbers)
