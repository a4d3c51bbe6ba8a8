-- The registers of both sides (docs/JSON.md, "Shown blocks"; docs/SHOW.md, "Registers").
use Rattle.std.specs.Prelude.{List, ◌++◌, Option, Some, None, map, codes}
use Rattle.json.specs.Token.{Token}
use Rattle.c62_live.specs.declared.lives.Lives.{Lives}
use Rattle.c62_live.specs.declared.lives.SideLives.{SideLives}
use Rattle.c62_json_packets.specs.Member.{number_member, null_member, array_member, object_member, register}

-- of a side how many are live in one cycle at most, the first such cycle, and those that are left alone
unfoldable pub side_members : SideLives → List Token
side_members lives =
    number_member (codes "most") lives.most
    ++ number_member (codes "cycle") lives.cycle
    ++ array_member (codes "unused") (map register lives.unused.items)

unfoldable pub sides : Lives → List Token
sides lives = object_member (codes "A") (side_members lives.a) ++ object_member (codes "B") (side_members lives.b)

-- null where they aren't asked for
abbrev pub lives_member : Option Lives → List Token
lives_member None = null_member (codes "registers")
lives_member (Some lives) = object_member (codes "registers") (sides lives)
