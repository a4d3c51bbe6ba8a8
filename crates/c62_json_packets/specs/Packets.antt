-- Packets in documents (docs/JSON.md, "Packets"; docs/LISTING.md, "Packets" and "Blocks").
use Rattle.std.specs.Prelude.{ℕ, ◌+◌, ◌==◌, List, [], ◌∷◌, ◌++◌, Option, Some, None, slice_get, codes}
use Rattle.std.specs.List.{filter, flat_map, range_with_len}
use Rattle.json.specs.Token.{Token}
use Rattle.c62_insn.specs.Spelling.{spelling}
use Rattle.c62_packet.specs.declared.placed.Placed.{Placed}
use Rattle.c62_packet.specs.Packed.{Packed}
use Rattle.c62_packet.specs.Packets.{labels_of}
use Rattle.c62_listing.specs.Listing.{label_text}
use Rattle.c62_grid.specs.Words.{unit_name}
use Rattle.c62_json.specs.Document.{object}
use Rattle.c62_json_packets.specs.Member.{number_member, text_member, null_member, array_member}

-- the name of what a branch goes to: the label of the block of this number
abbrev pub name_among : List (Option (List ℕ)) → ℕ → List ℕ
name_among labels number = label_text (slice_get labels number)

-- an instruction: its line, its unit, and how a listing spells it
unfoldable pub instruction : (ℕ → List ℕ) → Placed → List Token
instruction name p =
    object (number_member (codes "line") p.line
    ++ text_member (codes "unit") (unit_name p.unit)
    ++ text_member (codes "text") (spelling name p.insn p.unit))

-- of these instructions those that are issued in a cycle
abbrev pub issued_in : List Placed → ℕ → List Placed
issued_in placed cycle = filter (λ p. p.cycle == cycle) placed

-- the packet of a cycle in which these are issued; nothing, where there are none
unfoldable pub packet_of : (ℕ → List ℕ) → ℕ → List Placed → List Token
packet_of name cycle [] = []
packet_of name cycle (p ∷ others) =
    object (number_member (codes "cycle") cycle ++ array_member (codes "instructions") (flat_map (instruction name) (p ∷ others)))

abbrev pub packet : (ℕ → List ℕ) → List Placed → ℕ → List Token
packet name placed cycle = packet_of name cycle (issued_in placed cycle)

-- the cycles of a block
abbrev pub cycles_of : Packed → List ℕ
cycles_of block = range_with_len 0 block.cycles

-- the packets of a block, by cycle
unfoldable pub packets : (ℕ → List ℕ) → Packed → List Token
packets name block = array_member (codes "packets") (flat_map (packet name block.placed) (cycles_of block))

abbrev pub label_member : Option (List ℕ) → List Token
label_member None = null_member (codes "label")
label_member (Some label) = text_member (codes "label") label

-- what each block begins with: its number, its label, and its length
unfoldable pub heading : ℕ → Packed → List Token
heading number block =
    number_member (codes "block") number ++ label_member block.label ++ number_member (codes "cycles") block.cycles

unfoldable pub told_block : (ℕ → List ℕ) → ℕ → Packed → List Token
told_block name number packed = object (heading number packed ++ packets name packed)

-- the blocks from this number on
abbrev pub blocks_from : (ℕ → List ℕ) → ℕ → List Packed → List Token
blocks_from name number [] = []
blocks_from name number (packed ∷ rest) = told_block name number packed ++ blocks_from name (number + 1) rest

-- the blocks of packets, of which branches have the labels
unfoldable pub blocks_member : List Packed → List Token
blocks_member packets = array_member (codes "blocks") (blocks_from (name_among (labels_of packets)) 0 packets)
