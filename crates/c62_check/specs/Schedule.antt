-- Packets that are a schedule of a serial block (docs/SCHEDULING.md).
use Rattle.std.specs.Prelude.{◌≡◌, ℕ, ◌<◌, ℤ, pos, ◌≤ℤ◌, ◌+ℤ◌, List, take, length, slice_get, slice_index_or, Some, IsTrue, IsPermutation}
use Rattle.c62_insn.specs.declared.insn.Insn.{Insn}
use Rattle.c62_rules.specs.Dependence.{Bounds}
use Rattle.c62_read.specs.declared.block.SerialInsn.{SerialInsn}
use Rattle.c62_read.specs.Block.{Serial, branch_last, operations}
use Rattle.c62_packet.specs.declared.placed.Placed.{Placed}
use Rattle.c62_packet.specs.Packed.{Packed}
use Rattle.c62_packet.specs.Alike.{unlined}
use Rattle.c62_depend.specs.Plan.{unnumbered, IsPlan}
use Rattle.c62_meaning.specs.Laws.{cycles_of}
use Rattle.c62_pipe.specs.Chain.{IsBlockPacked}
use Rattle.c62_check.specs.Matched.{AreSame, AreTaken}

-- all bounds between the instructions of a block are kept, where they are placed so
abbrev pub KeepBounds : List Insn → List Placed → Type 0
KeepBounds block placed =
    (i j : ℕ) (p q : Placed) (bound : ℤ) → slice_get placed i ≡ Some p → slice_get placed j ≡ Some q → Bounds block i j bound
    → (pos p.cycle +ℤ bound) ≤ℤ pos q.cycle

-- The instructions of packets are, in this order, those of a block one for one, and keep all bounds. Neither sides nor
-- units are asked for.
pub record IsNumbering (insns : List SerialInsn) (listed numbered : List Placed) : Type 0 where
  pub same : AreSame insns numbered
  pub all : IsPermutation listed numbered
  pub keeps : KeepBounds (unnumbered insns) numbered

-- packets, as long as they take, are a schedule of a block: some numbering keeps all bounds
pub record IsSchedule (block : Serial) (packed : Packed) : Type 0 where
  pub branch_last : IsTrue (branch_last (operations block.insns))
  pub own_length : packed.cycles ≡ cycles_of packed.placed
  pub numbered : List Placed
  pub numbering : IsNumbering block.insns packed.placed numbered

-- ---- laws

-- with the lines of the block's instructions in place of their own, they are packets of it
pub record IsPackedWithLines (block : Serial) (packed : Packed) : Type 0 where
  pub lined : Packed
  pub alike : unlined packed ≡ unlined lined
  pub is : IsBlockPacked block lined

-- so is what is a schedule of a block
abbrev pub SchedulesArePacked : Serial → Packed → Type 0
SchedulesArePacked block packed = IsSchedule block packed → IsPackedWithLines block packed

-- no two are equal, in whatever order
abbrev pub AreDistinct : List Placed → Type 0
AreDistinct listed = (placed : List Placed) → IsPermutation listed placed
    → (i j : ℕ) (d : Placed) → i < length placed → j < length placed → slice_index_or placed i d ≡ slice_index_or placed j d → i ≡ j

-- what is taken in the order of the listing is what any lawful numbering has there
abbrev pub HasOneNumbering : List SerialInsn → List Placed → List Placed → Type 0
HasOneNumbering insns listed numbered =
    IsPlan (unnumbered insns) → AreDistinct listed → IsNumbering insns listed numbered → (count : ℕ) (taken left : List Placed) → AreTaken (take count insns) listed taken left
    → (i : ℕ) (d : Placed) → i < length taken → slice_index_or taken i d ≡ slice_index_or numbered i d
