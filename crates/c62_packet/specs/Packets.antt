-- Lists of packet blocks (docs/LISTING.md, "Blocks").
use Rattle.std.specs.Prelude.{◌≡◌, ℕ, Bool, List, All, map, Option, Some}
use Rattle.std.specs.List.{list_all, slice_get}
use Rattle.c62_op.specs.declared.operands.Operands.TheVariants.{Block as BlockNumber}
use Rattle.c62_insn.specs.Insn.{operands_of}
use Rattle.c62_read.specs.Block.{target_stands}
use Rattle.c62_packet.specs.Packed.{Packed}

-- the labels of the blocks, by their numbers
abbrev pub labels_of : List Packed → List (Option (List ℕ))
labels_of packets = map (λ block. block.label) packets

-- every branch to a block goes to one that is there and has a label
abbrev pub is_closed : List Packed → Bool
is_closed packets = list_all (λ block. list_all (λ p. target_stands (labels_of packets) (operands_of p.insn)) block.placed) packets

-- the block of this number is there, and has a label
abbrev pub IsLabelled : List Packed → ℕ → Type 0
IsLabelled packets number = (label : List ℕ) × (slice_get (labels_of packets) number ≡ Some (Some label))

-- so are the blocks to which the branches of a block go, and those of all blocks
abbrev pub HasTargets : List Packed → Packed → Type 0
HasTargets packets block = All (λ p. (number : ℕ) → operands_of p.insn ≡ BlockNumber number → IsLabelled packets number) block.placed

abbrev pub HaveTargets : List Packed → Type 0
HaveTargets packets = All (HasTargets packets) packets
