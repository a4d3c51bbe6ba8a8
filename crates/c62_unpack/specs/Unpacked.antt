-- The serial block of which packets are a schedule (docs/SHOW.md, "Packets as they stand").
use Rattle.std.specs.Prelude.{◌≡◌, List, map, IsPermutation}
use Rattle.c62_read.specs.declared.block.SerialInsn.{SerialInsn}
use Rattle.c62_read.specs.Block.{Serial}
use Rattle.c62_packet.specs.declared.placed.Placed.{Placed}
use Rattle.c62_packet.specs.Packed.{Packed}
use Rattle.c62_check.specs.Schedule.{IsSchedule}

-- an instruction of packets as a text has it: with its unit written, and its line
abbrev pub entry_of : Placed → SerialInsn
entry_of p = record { insn = p.insn; line = p.line }

-- A block has the instructions of the packets in this order, and the packets are a schedule of it.
pub record IsUnpacked (packed : Packed) (block : Serial) (placed : List Placed) : Type 0 where
  pub label : block.label ≡ packed.label
  pub all : IsPermutation packed.placed placed
  pub insns : block.insns ≡ map entry_of placed
  pub schedule : IsSchedule block packed
