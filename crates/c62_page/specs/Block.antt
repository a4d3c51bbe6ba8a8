-- A block of the page (docs/PAGE.md, "A block").
use Rattle.std.specs.Prelude.{ℕ, ◌+◌, List, [], ◌∷◌, ◌++◌, codes}
use Rattle.c62_packet.specs.declared.placed.Placed.{Placed}
use Rattle.c62_show.specs.declared.shown.Shown.{Shown}
use Rattle.c62_show.specs.Head.{name}
use Rattle.c62_show.specs.Picture.{limit_lines}
use Rattle.c62_show.specs.Registers.{register_lines}
use Rattle.c62_show.specs.Summary.{size_of}
use Rattle.c62_markup.specs.Page.{Piece, number_in, own_piece, text_in}
use Rattle.c62_page.specs.declared.tags.TheConstants.{SECTION_END, SECTION_ID}
use Rattle.c62_page.specs.Grid.{grid_part}
use Rattle.c62_page.specs.Flight.{flight_part}
use Rattle.c62_page.specs.Causes.{causes_part}

-- lines as a picture has them, where there are any
abbrev pub lines_part : List ℕ → List Piece
lines_part [] = []
lines_part (byte ∷ bytes) = text_in (codes "<pre>") (byte ∷ bytes) (codes "</pre>\n")

-- the head of a block: its name, how long it is, and whether it could be shorter
unfoldable pub block_head : ℕ → Shown → List Piece
block_head number shown =
    number_in SECTION_ID.now number (codes "'><h2>")
    ++ text_in (codes "<b>") (name number shown.packets.label) (codes "</b>")
    ++ text_in (codes "") (size_of shown shown.packets.placed) (codes "</h2>\n")

-- what is told of a block that has instructions
unfoldable pub block_rows : Shown → List Piece
block_rows shown =
    lines_part (limit_lines shown.limits)
    ++ grid_part shown.critical.items shown.packets.cycles shown.packets.placed
    ++ flight_part shown.packets.cycles shown.packets.placed
    ++ causes_part shown.whys.items
    ++ lines_part (register_lines shown.lives)

abbrev pub rows_of : Shown → List Placed → List Piece
rows_of shown [] = []
rows_of shown (p ∷ placed) = block_rows shown

unfoldable pub block_part : ℕ → Shown → List Piece
block_part number shown = block_head number shown ++ rows_of shown shown.packets.placed ++ own_piece SECTION_END.now

-- the blocks from this number on
abbrev pub blocks_from : ℕ → List Shown → List Piece
blocks_from number [] = []
blocks_from number (shown ∷ rest) = block_part number shown ++ blocks_from (number + 1) rest
