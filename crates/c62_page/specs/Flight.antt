-- What is in flight from issue to landing (docs/PAGE.md, "In flight").
use Rattle.std.specs.Prelude.{ℕ, ◌+◌, ◌-◌, List, [], ◌∷◌, ◌++◌, codes}
use Rattle.std.specs.List.{flat_map}
use Rattle.c62_packet.specs.declared.placed.Placed.{Placed}
use Rattle.c62_grid.specs.declared.landing.Landing.{Landing}
use Rattle.c62_grid.specs.Landing.{landed_name, landings_by, landings_of}
use Rattle.c62_markup.specs.Page.{Piece, number_in, own_piece, text_in}
use Rattle.c62_page.specs.declared.tags.TheConstants.{BAR_END, BAR_FROM, ROW_LINE, TABLE_END, TO_LINE}
use Rattle.c62_page.specs.declared.frame.TheConstants.{FLIGHT_BEGIN}
use Rattle.c62_page.specs.Text.{linked}

-- what lands, and the line of its instruction
unfoldable pub bar_begin : ℕ → Landing → List Piece
bar_begin line landing =
    number_in ROW_LINE.now line (codes "'>")
    ++ text_in (codes "<th>") (landed_name landing.what) (codes "</th><td>")
    ++ linked TO_LINE.now line

-- a bar that begins in the cycle of the issue, and ends with that of the landing
unfoldable pub bar_place : (issue landing : ℕ) → List Piece
bar_place issue landing =
    number_in BAR_FROM.now issue (codes ";--for:") ++ number_in (codes "") (landing + 1 - issue) (codes "'>")

-- `A5 from line 1: 0 to 4`
unfoldable pub bar_words : (line issue : ℕ) → Landing → List Piece
bar_words line issue landing =
    text_in (codes "") (landed_name landing.what) (codes " from line ")
    ++ number_in (codes "") line (codes ": ")
    ++ number_in (codes "") issue (codes " to ")
    ++ number_in (codes "") landing.cycle BAR_END.now

unfoldable pub bar : (line issue : ℕ) → Landing → List Piece
bar line issue landing = bar_begin line landing ++ bar_place issue landing.cycle ++ bar_words line issue landing

-- the bars of an instruction, and of all
abbrev pub bars_by : Placed → List Piece
bars_by p = flat_map (bar p.line p.cycle) (landings_by p)

abbrev pub bars : List Placed → List Piece
bars placed = flat_map bars_by placed

unfoldable pub flight_table : (cycles : ℕ) → List Placed → List Piece
flight_table cycles placed = number_in FLIGHT_BEGIN.now cycles (codes "'><tbody>\n") ++ bars placed ++ own_piece TABLE_END.now

-- the table, where anything is in flight
abbrev pub flight_of : (cycles : ℕ) → List Placed → List Landing → List Piece
flight_of cycles placed [] = []
flight_of cycles placed (landing ∷ landings) = flight_table cycles placed

abbrev pub flight_part : (cycles : ℕ) → List Placed → List Piece
flight_part cycles placed = flight_of cycles placed (landings_of placed)
