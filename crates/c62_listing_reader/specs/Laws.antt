-- The listing both ways.
use Rattle.std.specs.Prelude.{◌≡◌, ℕ, Bool, ◌<◌, ◌≤◌, List, length, map, All, Option, None, IsTrue}
use Rattle.std.specs.List.{AllByRecursion, IsDistinct, flat_map, list_all}
use Rattle.c62_op.specs.Units.{is_taken_in}
use Rattle.c62_insn.specs.Insn.{op_of, operands_of}
use Rattle.std.specs.Option.{option_to_list}
use Rattle.std.specs.Str.{bytes_eq}
use Rattle.c62_token.specs.Number.{is_label}
use Rattle.c62_read.specs.Program.{Name}
use Rattle.c62_read.specs.declared.limits.TheConstants.{MOST_BLOCKS}
use Rattle.c62_packet.specs.Alike.{AreAlike}
use Rattle.c62_packet.specs.Packed.{Packed, IsPacketBlock}
use Rattle.c62_packet.specs.Packets.{labels_of, is_closed}
use Rattle.c62_listing.specs.Listing.{listing}
use Rattle.c62_listing_reader.specs.Faults.{IsRead}
use Rattle.c62_op.specs.declared.set.InstructionSet.{InstructionSet}

-- what is read of a text is listed as that text, to the byte
abbrev pub IsListedBack : InstructionSet → List ℕ → List Packed → Type 0
IsListedBack isa text packets = IsRead isa text packets → listing packets ≡ text

-- a text has one reading, with the numbers of its lines
abbrev pub AreOneReading : InstructionSet → List ℕ → List Packed → List Packed → Type 0
AreOneReading isa text packets others = IsRead isa text packets → IsRead isa text others → packets ≡ others

-- ---- a listing is read back

-- the labels that blocks have, in the order of the blocks
abbrev pub labels_given : List Packed → List Name
labels_given packets = flat_map option_to_list (labels_of packets)

-- each instruction is one of the set
abbrev pub is_within : InstructionSet → Packed → Bool
is_within isa block = list_all (λ p. is_taken_in isa (op_of p.insn) (operands_of p.insn)) block.placed

-- Packets that a listing shows whole: few packet blocks of instructions of the set whose branches go to labelled blocks, with labels of
-- which no two are the same, and with instructions in each block without a label.
pub record AreShown (isa : InstructionSet) (packets : List Packed) : Type 0 where
  pub few : length packets ≤ MOST_BLOCKS
  pub are_blocks : All IsPacketBlock packets
  pub closed : IsTrue (is_closed packets)
  pub within : IsTrue (list_all (λ block. is_within isa block) packets)
  pub labels : AllByRecursion (λ label. IsTrue (is_label label)) (labels_given packets)
  pub distinct : IsDistinct bytes_eq (labels_given packets)
  pub begun : AllByRecursion (λ block. block.label ≡ None → 0 < length block.placed) packets

-- the listing of packets that it shows whole is read as these packets but for lines
abbrev pub IsReadBack : InstructionSet → List Packed → Type 0
IsReadBack isa packets = AreShown isa packets → (others : List Packed) × IsRead isa (listing packets) others × AreAlike packets others

-- ---- both directions

-- A text is read exactly where it is the listing of packets that a listing shows whole: what is read are such packets, and
-- such packets are what is read, but for lines.
pub record IsReadExactly (isa : InstructionSet) (text : List ℕ) : Type 0 where
  pub reads_listings : (packets : List Packed) → IsRead isa text packets → AreShown isa packets × (listing packets ≡ text)
  pub listings_are_read : (packets : List Packed) → AreShown isa packets → listing packets ≡ text
      → (others : List Packed) × IsRead isa text others × AreAlike packets others
