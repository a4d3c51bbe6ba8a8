-- How short a schedule of a block can be at best (docs/JSON.md, "Shown blocks"; docs/SHOW.md, "The path and the units").
use Rattle.std.specs.Prelude.{List, ◌++◌, Option, Some, None, map, codes, if◌then◌else◌}
use Rattle.std.specs.List.{flat_map}
use Rattle.json.specs.Token.{Token}
use Rattle.c62_bound.specs.declared.need.Need.{Need}
use Rattle.c62_bound.specs.Bound.{cycles_of}
use Rattle.c62_show.specs.declared.limits.Limits.{Limits}
use Rattle.c62_show.specs.declared.limits.Step.{Step}
use Rattle.c62_show.specs.Head.{shared_words, room_name, is_told}
use Rattle.c62_show.specs.Limits.{least_of}
use Rattle.c62_json.specs.Document.{count, object}
use Rattle.c62_json_packets.specs.Member.{number_member, signed_member, text_member, null_member, array_member, object_member}

-- a step of a path: the next line, how many cycles it comes behind at least, and what the two lines share
unfoldable pub step_members : Step → List Token
step_members next =
    number_member (codes "line") next.line
    ++ signed_member (codes "cycles") next.cycles
    ++ text_member (codes "shares") (shared_words next.reason)

abbrev pub step : Step → List Token
step next = object (step_members next)

-- the critical path: its length, its lines, and the steps between them
unfoldable pub path_told : Limits → List Token
path_told limits =
    object_member (codes "path") (number_member (codes "cycles") limits.path_length
    ++ array_member (codes "lines") (map count limits.path.items)
    ++ array_member (codes "steps") (flat_map step limits.steps.items))

-- a need: its cycles, how many instructions wait for what, and how many cycles follow behind the last
unfoldable pub need_members : Need → List Token
need_members need =
    number_member (codes "cycles") (cycles_of need)
    ++ number_member (codes "count") need.count
    ++ text_member (codes "on") (room_name need.kind need.side)
    ++ number_member (codes "behind") need.tail

-- the greatest need, where its instructions don't find room in one cycle
abbrev pub units_member : Option Need → List Token
units_member None = null_member (codes "units")
units_member (Some need) = if is_told need then object_member (codes "units") (need_members need) else null_member (codes "units")

unfoldable pub known_members : Limits → List Token
known_members limits = number_member (codes "bound") (least_of limits) ++ path_told limits ++ units_member limits.need

unfoldable pub unknown_members : List Token
unknown_members = null_member (codes "bound") ++ null_member (codes "path") ++ null_member (codes "units")

-- the bound, the path and the units, where they are known
abbrev pub limits_members : Option Limits → List Token
limits_members None = unknown_members
limits_members (Some limits) = known_members limits
