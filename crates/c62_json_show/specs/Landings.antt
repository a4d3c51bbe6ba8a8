-- What lands behind the cycle of its issue (docs/JSON.md, "Shown blocks"; docs/SHOW.md, "What lands").
use Rattle.std.specs.Prelude.{ℕ, List, ◌++◌, codes}
use Rattle.std.specs.List.{flat_map}
use Rattle.json.specs.Token.{Token}
use Rattle.c62_packet.specs.declared.placed.Placed.{Placed}
use Rattle.c62_grid.specs.declared.landing.Landing.{Landing}
use Rattle.c62_grid.specs.Landing.{landed_name, landings_by as landings_of_one}
use Rattle.c62_json.specs.Document.{object}
use Rattle.c62_json_packets.specs.Member.{number_member, text_member}

-- in which cycle what lands of the instruction of a line
unfoldable pub landing : ℕ → Landing → List Token
landing line landed =
    object (number_member (codes "cycle") landed.cycle
    ++ text_member (codes "lands") (landed_name landed.what)
    ++ number_member (codes "line") line)

abbrev pub landings_by : Placed → List Token
landings_by p = flat_map (landing p.line) (landings_of_one p)

-- of a block's instructions, by issue
abbrev pub landings : List Placed → List Token
landings placed = flat_map landings_by placed
