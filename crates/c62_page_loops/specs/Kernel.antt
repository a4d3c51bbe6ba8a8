-- The kernel of a pipelined loop as a table (docs/PAGE.md, "Pipelined loops"; docs/SHOW.md, "Pipelined loops").
use Rattle.std.specs.Prelude.{ℕ, ◌%◌, ◌==◌, Bool, true, false, List, [], ◌∷◌, ◌++◌, codes, find, Option, Some, None, if◌then◌else◌}
use Rattle.std.specs.List.{flat_map}
use Rattle.c62_op.specs.Units.{all_units}
use Rattle.c62_op.specs.Table.{mnemonic_of}
use Rattle.c62_insn.specs.Insn.{op_of}
use Rattle.c62_packet.specs.declared.placed.Placed.{Placed}
use Rattle.c62_rows.specs.declared.rows.Row.{Row}
use Rattle.c62_grid.specs.Grid.{is_on, range_text}
use Rattle.c62_loop_match.specs.declared.parts.Pipelined.{Pipelined}
use Rattle.c62_modulo.specs.declared.made.Made.{Made}
use Rattle.c62_pipeline.specs.Kernel.{epilog_of, kernel_of, later, stage_of}
use Rattle.c62_markup.specs.Page.{Piece, number_in, own_in, own_piece, text_in}
use Rattle.c62_page.specs.declared.frame.TheConstants.{GRID_BEGIN, ROWS_BEGIN}
use Rattle.c62_page.specs.declared.tags.TheConstants.{CELL_CLASS, CELL_ID, DATA_LINE, TABLE_END, TO_LINE}
use Rattle.c62_page.specs.Cells.{empty_cell}
use Rattle.c62_page.specs.Text.{linked}
use Rattle.c62_page_loops.specs.declared.frame.TheConstants.{IDLE, KERNEL_COLUMNS}

-- ---- an instruction

-- its class is that of its stage, of which there are eight
unfoldable pub stage_begin : List Row → Placed → List Piece
stage_begin epilog p =
    number_in CELL_ID.now p.line DATA_LINE.now
    ++ number_in (codes "") p.line CELL_CLASS.now
    ++ number_in (codes "stage-") (stage_of epilog p % 8) (codes "'>")

-- `16/7 ADD`: its line, its stage and its mnemonic
unfoldable pub stage_cell : List Row → Placed → List Piece
stage_cell epilog p =
    stage_begin epilog p
    ++ linked TO_LINE.now p.line
    ++ number_in (codes "/") (stage_of epilog p) (codes " ")
    ++ text_in (codes "") (mnemonic_of (op_of p.insn)) (codes "</td>")

abbrev pub unit_cell : List Row → Option Placed → List Piece
unit_cell epilog None = empty_cell
unit_cell epilog (Some p) = stage_cell epilog p

-- what a row has on each unit
abbrev pub unit_cells : List Row → List Placed → List Piece
unit_cells epilog insns = flat_map (λ unit. unit_cell epilog (find (is_on unit) insns)) all_units

-- ---- rows

unfoldable pub issue_row : List Row → ℕ → List Placed → List Piece
issue_row epilog cycle insns = number_in (codes "<tr><th>") cycle (codes "</th>") ++ unit_cells epilog insns ++ own_piece (codes "</tr>\n")

-- cycles in which nothing is issued
abbrev pub pause_row : (first last : ℕ) → List Piece
pause_row first last = text_in (codes "<tr><th>") (range_text first last) IDLE.now

-- the cycles of a row behind that in which it is issued
abbrev pub rest_row : ℕ → ℕ → List Piece
rest_row cycle idle = if idle == 0 then [] else pause_row (later cycle 1) (later cycle idle)

-- a row from this cycle on
abbrev pub row_part : List Row → ℕ → List Placed → ℕ → List Piece
row_part epilog cycle [] idle = pause_row cycle (later cycle idle)
row_part epilog cycle (p ∷ insns) idle = issue_row epilog cycle (p ∷ insns) ++ rest_row cycle idle

abbrev pub rows_from : List Row → ℕ → List Row → List Piece
rows_from epilog cycle [] = []
rows_from epilog cycle (row ∷ rows) =
    row_part epilog cycle row.insns.items row.idle ++ rows_from epilog (later (later cycle row.idle) 1) rows

unfoldable pub kernel_table : Pipelined → List Piece
kernel_table loop =
    own_in GRID_BEGIN.now KERNEL_COLUMNS.now ROWS_BEGIN.now ++ rows_from (epilog_of loop) 0 (kernel_of loop) ++ own_piece TABLE_END.now

-- the table, where the loop has packets of its own
abbrev pub made_part : Option Made → List Piece
made_part None = []
made_part (Some made) = kernel_table made.pipelined
