-- Blocks of packets laid out as the rows of a text: it flies as their chain. So running packets in flight is no other thing than
-- running drained blocks (docs/MACHINE.md, "Packets").
use Rattle.std.specs.Prelude.{◌≡◌, ◌⊎◌, ℕ, zero, suc, ◌+◌, ◌<◌, ◌≤◌, List, [], ◌∷◌, length, map, All, Contains, slice_get, slice_index_or, sum_by, Some, None, IsTrue, IsFalse}
use Rattle.c62_op.specs.declared.operands.Operands.TheVariants.{Block as ToBlock}
use Rattle.c62_insn.specs.Insn.{operands_of}
use Rattle.c62_serial.specs.declared.chain.End.TheVariants.{End as FellThrough, Register as ToRegister, Limit as Stopped}
use Rattle.c62_serial.specs.State.{Machine, IsSound}
use Rattle.c62_serial.specs.Chain.{Blocks, Position, At, Ended, Standing, IsChain}
use Rattle.c62_packet.specs.declared.placed.Placed.{Placed}
use Rattle.c62_packet.specs.Packed.{Packed, is_branching, IsPacketBlock}
use Rattle.c62_meaning.specs.Meaning.{IsMeaning}
use Rattle.c62_meaning.specs.Cut.{moved}
use Rattle.c62_flight.specs.declared.stop.Stop.{Stop}
use Rattle.c62_flight.specs.declared.stop.Stop.TheVariants.{End, Register, Limit}
use Rattle.c62_flight.specs.Text.{Text, row_of, aim_of, is_address}
use Rattle.c62_flight.specs.Issued.{Visit, issued_on}
use Rattle.c62_flight.specs.Flight.{Flies}

-- ---- the layout

-- so many rows from one on, each begun when the one above is over and no branch takes effect
abbrev pub straight : Text → ℕ → ℕ → ℕ → List Visit
straight text row start zero = []
straight text row start (suc count) = record { row = row; start = start } ∷ straight text (row + 1) (start + (row_of text row).idle + 1) count

-- the cycle in which they are over
abbrev pub straight_end : Text → ℕ → ℕ → ℕ → ℕ
straight_end text row start zero = start
straight_end text row start (suc count) = straight_end text (row + 1) (start + (row_of text row).idle + 1) count

-- A block is laid out as so many rows from one on, the first of which begins so many cycles behind the block's begin: they hold
-- its packets, they last as long as it, and with a branch none begins behind its delay slots.
pub record IsLaid (text : Text) (block : Packed) (row count lead : ℕ) : Type 0 where
  pub holds : map (moved lead) (issued_on text (straight text row 0 count)) ≡ block.placed
  pub rows : row + count ≤ length text.rows
  pub lasts : block.cycles ≤ lead + straight_end text row 0 count
  pub slots : (p : Placed) (visit : Visit) → Contains block.placed p → IsTrue (is_branching p) → Contains (straight text row 0 count) visit
      → lead + visit.start < p.cycle + 6

-- So are blocks, one behind the other. Between the cycles of one and the first row of the next there are as many as that leads by,
-- or more, and none where a branch goes there; it goes to the first row of the block of its number.
pub record AreLaid (text : Text) (packets : List Packed) : Type 0 where
  pub row : ℕ → ℕ
  pub count : ℕ → ℕ
  pub lead : ℕ → ℕ
  pub laid : (number : ℕ) (block : Packed) → slice_get packets number ≡ Some block → IsLaid text block (row number) (count number) (lead number)
  pub first : row 0 ≡ 0
  pub next : (number : ℕ) → number < length packets → row (number + 1) ≡ row number + count number
  pub last : row (length packets) ≡ length text.rows
  pub begun : lead 0 ≡ 0
  pub gaps : (number : ℕ) (block : Packed) → slice_get packets number ≡ Some block
      → block.cycles + lead (number + 1) ≤ lead number + straight_end text (row number) 0 (count number)
  pub targets : (number other : ℕ) (block : Packed) (p : Placed) → slice_get packets number ≡ Some block → Contains block.placed p
      → operands_of p.insn ≡ ToBlock other → other < length packets → lead other ≡ 0
  pub aims : (number : ℕ) → number < length packets → aim_of text number ≡ row number
  pub outside : (number : ℕ) → length packets ≤ number → aim_of text number ≡ length text.rows

-- ---- the chain

abbrev pub no_block : Packed
no_block = record { label = None; cycles = 0; placed = [] }

abbrev pub block_of : List Packed → ℕ → Packed
block_of packets number = slice_index_or packets number no_block

abbrev pub packet_blocks : List Packed → Blocks
packet_blocks packets number before ran = IsMeaning (block_of packets number).placed (block_of packets number).cycles before ran

abbrev pub cycles_taken : List Packed → List ℕ → ℕ
cycles_taken packets numbers = sum_by (λ number. (block_of packets number).cycles) numbers

-- how a flight stops whose chain ends there: where that has its limit of blocks, by a limit of cycles, or by the end where no row follows
abbrev pub StopsAs : Position → Stop → Type 0
StopsAs (At number) stop = (stop ≡ Limit) ⊎ (stop ≡ End)
StopsAs (Ended FellThrough) stop = stop ≡ End
StopsAs (Ended (ToRegister word)) stop = stop ≡ Register word
StopsAs (Ended Stopped) stop = ⊥

-- From a row on the text flies so, and takes these cycles or more, under each limit that is no less than the cycles taken, and under just these where it has to stop by it
pub record FliesAs (text : Text) (row : ℕ) (opening : Machine) (last : Position) (final : Machine) (cycles : ℕ) : Type 0 where
  pub stop : Stop
  pub taken : ℕ
  pub long : cycles ≤ taken
  pub told : StopsAs last stop
  pub flies : (more : ℕ) → (stop ≡ Limit → more ≡ 0) → Flies text row (taken + more) opening stop taken final

-- a chain that ends there leaves the text: by a branch to a register, that held no row's address
abbrev pub IsOutside : Text → Position → Type 0
IsOutside text (Ended (ToRegister word)) = IsFalse (is_address text word)
IsOutside text position = Unit {0}

-- packets of blocks, laid out, fly as their chain
abbrev pub LaidFlies : Text → List Packed → Type 0
LaidFlies text packets = AreLaid text packets → All IsPacketBlock packets → (opening : Machine) (limit : ℕ) (standing : Standing) → IsSound opening
    → IsChain (length packets) (packet_blocks packets) opening limit standing → IsOutside text standing.position
    → FliesAs text 0 opening standing.position standing.machine (cycles_taken packets standing.numbers)
