-- A listing is adopted as itself (docs/ADOPT.md, "What holds").
use Rattle.std.specs.Prelude.{◌≡◌, ◌≤◌, Bool, List, [], ◌∷◌, None, count_by}
use Rattle.c62_packet.specs.Packed.{Packed, is_branching}
use Rattle.c62_packet.specs.Alike.{AreAlike}
use Rattle.c62_listing.specs.Listing.{listing}
use Rattle.c62_listing_reader.specs.Laws.{AreShown}
use Rattle.c62_adopt.specs.Answer.{IsAdopted}
use Rattle.c62_op.specs.declared.set.InstructionSet.{InstructionSet}

-- some instruction of the block is a branch
abbrev pub HasBranch : Packed → Type 0
HasBranch block = 1 ≤ count_by is_branching block.placed

-- behind this block each block without a label stands behind one with a branch
abbrev pub ArePartedBehind : Packed → List Packed → Type 0
ArePartedBehind block [] = Unit {0}
ArePartedBehind block (next ∷ blocks) = (next.label ≡ None → HasBranch block) × ArePartedBehind next blocks

-- each block without a label is the first, or stands behind one with a branch
abbrev pub AreParted : List Packed → Type 0
AreParted [] = Unit {0}
AreParted (block ∷ blocks) = ArePartedBehind block blocks

-- the listing of packets is adopted, drained or not, and as what it lists: without a cycle more, and to the byte
pub record IsAdoptedAsItself (isa : InstructionSet) (drain : Bool) (packets : List Packed) : Type 0 where
  pub others : List Packed
  pub adopted : IsAdopted isa drain (listing packets) others 0
  pub alike : AreAlike packets others
  pub same : listing others ≡ listing packets

abbrev pub ListingsStay : InstructionSet → Bool → List Packed → Type 0
ListingsStay isa drain packets = AreShown isa packets → AreParted packets → IsAdoptedAsItself isa drain packets
