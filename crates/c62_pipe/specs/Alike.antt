-- Chains of packet blocks that are alike but for lines (docs/REPORT.md, "Chains" and "Faults").
use Rattle.std.specs.Prelude.{◌≡◌, ◌⊎◌, ◌↔◌, ℕ, List, Bool, Contains, slice_get, Some, IsTrue}
use Rattle.c62_serial.specs.declared.chain.Chain.{Chain}
use Rattle.c62_serial.specs.State.{Machine, IsSound}
use Rattle.c62_packet.specs.declared.placed.Placed.{Placed}
use Rattle.c62_packet.specs.Packed.{Packed}
use Rattle.c62_packet.specs.Alike.{AreAlike}
use Rattle.c62_meaning.specs.Alike.{AreSameButFaults}
use Rattle.c62_pipe.specs.Chain.{block_of, RunsPackets}

-- which places faulted: of a block's number and the position of an instruction in the block
abbrev pub Places : Type 0
Places = ℕ → ℕ → Bool

-- an instruction of this line stands in one of the places
pub record StandsIn (packets : List Packed) (places : Places) (line : ℕ) : Type 0 where
  pub number : ℕ
  pub position : ℕ
  pub placed : Placed
  pub stands : slice_get (block_of packets number).placed position ≡ Some placed
  pub of_line : placed.line ≡ line
  pub inside : IsTrue (places number position)

-- the faulted lines of a run are those that had faulted before it, and those of these places
abbrev pub HaveFaulted : List Packed → Places → Machine → Machine → Type 0
HaveFaulted packets places opening final = (line : ℕ) → Contains final.faults line ↔ (Contains opening.faults line ⊎ StandsIn packets places line)

-- The others have the same chain under the same limit, which takes the same cycles, and leave the same but for faults. Of
-- both the lines that joined the faulted ones are those of the same places.
pub record HaveTheSameChain (packets others : List Packed) (opening opening' : Machine) (limit : ℕ) (chain : Chain) (cycles : ℕ) (final : Machine) : Type 0 where
  pub left : Machine
  pub runs : RunsPackets others opening' limit chain cycles left
  pub machine : AreSameButFaults final left
  pub places : Places
  pub faulted : HaveFaulted packets places opening final
  pub others_faulted : HaveFaulted others places opening' left

-- so it is from sound machines that are the same but for faults
abbrev pub ChainAlike : List Packed → List Packed → Machine → Machine → ℕ → Type 0
ChainAlike packets others opening opening' limit = AreAlike packets others → AreSameButFaults opening opening' → IsSound opening' → (chain : Chain) (cycles : ℕ) (final : Machine)
    → RunsPackets packets opening limit chain cycles final → HaveTheSameChain packets others opening opening' limit chain cycles final
