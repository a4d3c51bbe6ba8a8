-- Blocks that are shown (docs/JSON.md, "Shown blocks"; docs/SHOW.md, "A block" and "The heads alone").
use Rattle.std.specs.Prelude.{ℕ, ◌+◌, Bool, List, [], ◌++◌, ◌∷◌, length, map, codes, if◌then◌else◌}
use Rattle.std.specs.List.{flat_map}
use Rattle.json.specs.Token.{Token}
use Rattle.c62_packet.specs.Packed.{Packed}
use Rattle.c62_packet.specs.Packets.{labels_of}
use Rattle.c62_show.specs.declared.shown.Shown.{Shown}
use Rattle.c62_json.specs.Document.{object}
use Rattle.c62_json_packets.specs.Member.{number_member, null_member, array_member}
use Rattle.c62_json_packets.specs.Packets.{name_among, heading, packets}
use Rattle.c62_json_show.specs.Limits.{limits_members}
use Rattle.c62_json_show.specs.Landings.{landings}
use Rattle.c62_json_show.specs.Causes.{cause}
use Rattle.c62_json_show.specs.Registers.{lives_member}

abbrev pub packets_of : List Shown → List Packed
packets_of shown = map (λ each. each.packets) shown

-- the head of a block: its number, its label, its length, how many instructions it has, and how short it can be at best
unfoldable pub head_members : ℕ → Shown → List Token
head_members number shown =
    heading number shown.packets
    ++ number_member (codes "instructions") (length shown.packets.placed)
    ++ limits_members shown.limits

-- what stands below it
unfoldable pub rows : (ℕ → List ℕ) → Shown → List Token
rows name shown =
    packets name shown.packets
    ++ array_member (codes "landings") (landings shown.packets.placed)
    ++ array_member (codes "causes") (flat_map cause shown.whys.items)
    ++ lives_member shown.lives

unfoldable pub no_rows : List Token
no_rows =
    array_member (codes "packets") [] ++ array_member (codes "landings") [] ++ array_member (codes "causes") []
    ++ null_member (codes "registers")

-- of heads alone nothing
abbrev pub rows_told : (ℕ → List ℕ) → (summary : Bool) → Shown → List Token
rows_told name summary shown = if summary then no_rows else rows name shown

unfoldable pub shown_block : (ℕ → List ℕ) → (summary : Bool) → ℕ → Shown → List Token
shown_block name summary number shown = object (head_members number shown ++ rows_told name summary shown)

-- the blocks from this number on
abbrev pub blocks_from : (ℕ → List ℕ) → (summary : Bool) → ℕ → List Shown → List Token
blocks_from name summary number [] = []
blocks_from name summary number (shown ∷ rest) = shown_block name summary number shown ++ blocks_from name summary (number + 1) rest

-- all blocks, of which branches have the labels
unfoldable pub blocks_member : (summary : Bool) → List Shown → List Token
blocks_member summary shown =
    array_member (codes "blocks") (blocks_from (name_among (labels_of (packets_of shown))) summary 0 shown)
