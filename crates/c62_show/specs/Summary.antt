-- The heads of a text's blocks alone (docs/SHOW.md, "The heads alone").
use Rattle.std.specs.Prelude.{ℕ, ◌+◌, List, [], ◌∷◌, ◌++◌, length, codes, option_map}
use Rattle.c62_packet.specs.declared.placed.Placed.{Placed}
use Rattle.c62_show.specs.declared.shown.Shown.{Shown}
use Rattle.c62_show.specs.Limits.{least_of}
use Rattle.c62_show.specs.Head.{name, size}

-- what stands behind the name of a block: how many instructions and cycles it has, and whether it could be shorter
abbrev pub size_of : Shown → List Placed → List ℕ
size_of shown [] = codes ": no instruction\n"
size_of shown (p ∷ placed) = size (length shown.packets.placed) shown.packets.cycles (option_map least_of shown.limits)

-- the head of a block
unfoldable pub head_text : ℕ → Shown → List ℕ
head_text number shown = name number shown.packets.label ++ size_of shown shown.packets.placed

-- those of the blocks from this number on
abbrev pub heads_from : ℕ → List Shown → List ℕ
heads_from number [] = []
heads_from number (shown ∷ rest) = head_text number shown ++ heads_from (number + 1) rest

abbrev pub summary : List Shown → List ℕ
summary shown = heads_from 0 shown
