-- The grid of a block: a row for each cycle (docs/PAGE.md, "The grid").
use Rattle.std.specs.Prelude.{◌≡◌, ℕ, List, ◌++◌, length, codes}
use Rattle.std.specs.List.{flat_map, range_with_len}
use Rattle.c62_op.specs.declared.register.Side.TheVariants.{A, B}
use Rattle.c62_op.specs.declared.register.Reg.{Reg}
use Rattle.c62_packet.specs.declared.placed.Placed.{Placed}
use Rattle.c62_grid.specs.Grid.{packet}
use Rattle.c62_grid.specs.Landing.{landed_in_row, landings_of}
use Rattle.c62_live.specs.Rows.{AreLiveRows, live_in}
use Rattle.c62_show.specs.Registers.{names}
use Rattle.c62_markup.specs.Page.{Piece, number_in, own_in, own_piece, text_in}
use Rattle.c62_page.specs.declared.tags.TheConstants.{TABLE_END}
use Rattle.c62_page.specs.declared.frame.TheConstants.{GRID_BEGIN, GRID_COLUMNS, ROWS_BEGIN}
use Rattle.c62_page.specs.declared.grid.Grid.{Grid}
use Rattle.c62_page.specs.Cells.{path_cells, unit_cells}

-- what lands in a cycle
abbrev pub landed_cell : List Placed → ℕ → List Piece
landed_cell placed cycle = text_in (codes "<td>") (flat_map (landed_in_row cycle) (landings_of placed)) (codes "</td>")

-- how many registers are live, and which
unfoldable pub regs_cell : List Reg → List Piece
regs_cell regs = number_in (codes "<td><b>") (length regs) (codes "</b>") ++ text_in (codes "") (names regs) (codes "</td>")

-- those of both sides
unfoldable pub live_cells : List Placed → (cycles cycle : ℕ) → List Piece
live_cells placed cycles cycle = regs_cell (live_in placed A cycles cycle) ++ regs_cell (live_in placed B cycles cycle)

-- what is issued in a cycle on each unit and over each path
unfoldable pub issue_cells : List ℕ → List Placed → List Piece
issue_cells path issued = unit_cells path issued ++ path_cells issued

unfoldable pub cycle_row : List ℕ → (cycles : ℕ) → List Placed → ℕ → List Piece
cycle_row path cycles placed cycle =
    number_in (codes "<tr><th>") cycle (codes "</th>")
    ++ issue_cells path (packet placed cycle)
    ++ landed_cell placed cycle
    ++ live_cells placed cycles cycle
    ++ own_piece (codes "</tr>\n")

abbrev pub rows : List ℕ → (cycles : ℕ) → List Placed → List Piece
rows path cycles placed = flat_map (cycle_row path cycles placed) (range_with_len 0 cycles)

unfoldable pub grid_part : List ℕ → (cycles : ℕ) → List Placed → List Piece
grid_part path cycles placed = own_in GRID_BEGIN.now GRID_COLUMNS.now ROWS_BEGIN.now ++ rows path cycles placed ++ own_piece TABLE_END.now

-- ---- what is known of a block before its rows are written

pub record IsReady (grid : Grid) : Type 0 where
  pub landings : grid.landings.now ≡ landings_of grid.placed.now
  pub live_a : AreLiveRows grid.placed.now A grid.cycles grid.live_a.now
  pub live_b : AreLiveRows grid.placed.now B grid.cycles grid.live_b.now
