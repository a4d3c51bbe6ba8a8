-- The packet blocks of what a text of packets says (docs/ADOPT.md, "Cycles" and "Blocks").
use Rattle.std.specs.Prelude.{◌≡◌, ℕ, List, map, Option, Some, None, unwrap_or, IsPermutation}
use Rattle.std.specs.List.{position}
use Rattle.c62_read.specs.Program.{Name, label_is}
use Rattle.c62_packet.specs.declared.placed.Placed.{Placed}
use Rattle.c62_packet.specs.Packed.{Packed, StandAsWritten, IsPacketBlock}
use Rattle.c62_listing_reader.specs.Said.{Part, part_of, aimed_parts}
use Rattle.c62_adopt_cut.specs.Blocks.{Issue, Draft}

-- the number of the block that a label stands for
abbrev pub target_number : List Draft → Option Name → ℕ
target_number drafts None = 0
target_number drafts (Some label) = unwrap_or (position (λ draft. label_is label draft.label) drafts) 0

-- an instruction where the text has it, its branch to a label aimed at the block that this stands for
abbrev pub part_in : List Draft → Issue → Part
part_in drafts issue =
    record { parts = aimed_parts (target_number drafts issue.target) issue.parts; line = issue.line; cycle = issue.cycle }

-- these are those instructions of a block, in the order of their lines, each on its written unit
pub record AreOf (drafts : List Draft) (issues : List Issue) (placed : List Placed) : Type 0 where
  pub parts : map part_of placed ≡ map (part_in drafts) issues
  pub units : StandAsWritten placed

-- the packet block of a block's instructions under its label, each in its cycle
pub record IsBlockOf (drafts : List Draft) (draft : Draft) (block : Packed) : Type 0 where
  pub label : block.label ≡ draft.label
  pub placed : List Placed
  pub stand : AreOf drafts draft.issues placed
  pub listed : IsPermutation placed block.placed
  pub is_block : IsPacketBlock block
