-- Packets as they were written (docs/JSON.md, "Adopted packets"; docs/ADOPT.md, "Cycles that lack").
use Rattle.std.specs.Prelude.{List, ◌++◌, Option, Some, None, codes}
use Rattle.json.specs.Token.{Token}
use Rattle.c62_adopt_late.specs.declared.late.Late.{Late}
use Rattle.c62_packet.specs.Packed.{Packed}
use Rattle.c62_json_packets.specs.Member.{number_member, register_member, null_member, object_member}
use Rattle.c62_json_packets.specs.Packets.{blocks_member}
use Rattle.c62_json_adopt.specs.declared.adopted.Drained.{Drained}

-- a register that is read below a block before what lands in it there, and the line of what writes it
unfoldable pub late_told : Late → List Token
late_told late =
    object_member (codes "late") (register_member (codes "register") late.reg ++ number_member (codes "line") late.line)

abbrev pub late_member : Option Late → List Token
late_member None = null_member (codes "late")
late_member (Some late) = late_told late

-- how many cycles were added, and the first such register
unfoldable pub drained_told : Drained → List Token
drained_told drained =
    object_member (codes "drained") (number_member (codes "cycles") drained.cycles ++ late_member drained.late)

-- null where draining wasn't asked for
abbrev pub drained_member : Option Drained → List Token
drained_member None = null_member (codes "drained")
drained_member (Some drained) = drained_told drained

-- what was added, and the blocks
unfoldable pub adopted_members : Option Drained → List Packed → List Token
adopted_members drained packets = drained_member drained ++ blocks_member packets
