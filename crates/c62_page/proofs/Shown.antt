-- What the page has of each instruction.
use Rattle.std.proofs.Common.{◌≡◌, ◌∙◌, ℕ, zero, suc, ◌+◌, ◌<◌, List, [], ◌∷◌, ◌++◌, Some, refl, sym, ap, subst}
use Rattle.std.specs.Prelude.{codes, find, slice_get}
use Rattle.std.specs.List.{flat_map, range_with_len}
use Rattle.std.proofs.lemmas.Option.{same_Some}
use Rattle.c62_op.specs.Units.{all_units}
use Rattle.c62_packet.specs.declared.placed.Placed.{Placed}
use Rattle.c62_grid.specs.declared.landing.Landing.{Landing}
use Rattle.c62_grid.specs.Grid.{is_on, packet}
use Rattle.c62_grid.specs.Landing.{landings_by, landings_of}
use Rattle.c62_show.specs.declared.shown.Shown.{Shown}
use Rattle.c62_show.specs.Picture.{limit_lines}
use Rattle.c62_show.specs.Registers.{register_lines}
use Rattle.c62_show.proofs.Cells.{all_shown}
use Rattle.c62_show.proofs.Printed.{before_end, cycle_in, unit_at}
use Rattle.c62_why.specs.declared.why.Why.{Why}
use Rattle.c62_markup.specs.Page.{Piece, number_in, own_in, own_piece}
use Rattle.c62_page.specs.declared.tags.TheConstants.{SECTION_END, TABLE_END}
use Rattle.c62_page.specs.declared.frame.TheConstants.{BLOCKS_HEAD, CAUSES_BEGIN, CAUSES_COLUMNS, FLIGHT_BEGIN}
use Rattle.c62_page.specs.declared.frame.TheConstants.{GRID_BEGIN, GRID_COLUMNS, ROWS_BEGIN}
use Rattle.c62_page.specs.Text.{text_part}
use Rattle.c62_page.specs.Cells.{insn_cell, unit_cell, unit_cells}
use Rattle.c62_page.specs.Grid.{cycle_row, grid_part, rows}
use Rattle.c62_page.specs.Flight.{bar, bars, bars_by, flight_of, flight_part, flight_table}
use Rattle.c62_page.specs.Causes.{causes_part, whole_table, why_row}
use Rattle.c62_page.specs.Block.{block_head, block_part, block_rows, blocks_from, lines_part, rows_of}
use Rattle.c62_page.specs.Page.{page_end, page_head, page_pieces}
use Rattle.c62_page.specs.Laws.{AreAllShown, HasPart, HaveAllBars, HaveAllCauses}
use Rattle.c62_page.proofs.Parts.{before_pieces, behind_pieces, part_of_each, whole_part}

-- ---- the grid

cell_has : (path : List ℕ) (issued : List Placed) (p : Placed) → find (is_on p.unit) issued ≡ Some p
    → HasPart (unit_cells path issued) (insn_cell path p)
cell_has path issued p found =
    let at = unit_at p.unit in
    part_of_each (λ unit. unit_cell path (find (is_on unit) issued)) all_units at.0 p.unit (insn_cell path p)
    at.1
    (subst (λ one. HasPart (unit_cell path one) (insn_cell path p)) (sym found) (whole_part (insn_cell path p)))

row_has : (path : List ℕ) (cycles : ℕ) (placed : List Placed) (cycle : ℕ) → cycle < cycles
    → HasPart (rows path cycles placed) (cycle_row path cycles placed cycle)
row_has path cycles placed cycle less =
    part_of_each (cycle_row path cycles placed) (range_with_len 0 cycles) cycle cycle
    (cycle_row path cycles placed cycle) (cycle_in cycles cycle less)
    (whole_part (cycle_row path cycles placed cycle))

grid_has : (path : List ℕ) (cycles : ℕ) (placed : List Placed) (part : List Piece)
    → HasPart (rows path cycles placed) part
    → HasPart (grid_part path cycles placed) part
unfolding grid_part
grid_has path cycles placed part has =
    before_pieces (own_in GRID_BEGIN.now GRID_COLUMNS.now ROWS_BEGIN.now ++ rows path cycles placed)
    (own_piece TABLE_END.now) part
    (behind_pieces (own_in GRID_BEGIN.now GRID_COLUMNS.now ROWS_BEGIN.now) (rows path cycles placed) part has)

-- ---- the other tables

no_front : {X : Type 0} (one other : List X) → one ++ other ≡ [] → one ≡ []
no_front [] other none = refl
no_front (x ∷ one) other none = absurd cc

no_back : {X : Type 0} (one other : List X) → one ++ other ≡ [] → other ≡ []
no_back [] other none = none
no_back (x ∷ one) other none = absurd cc

none_at : {X : Type 0} (j : ℕ) (x : X) → slice_get [] j ≡ Some x → ⊥
none_at j x at = absurd cc

table_has : (cycles : ℕ) (placed : List Placed) (part : List Piece) → HasPart (bars placed) part
    → HasPart (flight_table cycles placed) part
unfolding flight_table
table_has cycles placed part has =
    let begin = number_in FLIGHT_BEGIN.now cycles (codes "'><tbody>\n") in
    before_pieces (begin ++ bars placed) (own_piece TABLE_END.now) part
    (behind_pieces begin (bars placed) part has)

-- something lands where something lands of one
lands_in : (placed : List Placed) (k j : ℕ) (p : Placed) (landing : Landing) → slice_get placed k ≡ Some p
    → slice_get (landings_by p) j ≡ Some landing → landings_of placed ≡ [] → ⊥
lands_in [] k j p landing at lands none = absurd cc
lands_in (q ∷ placed) zero j p landing at lands none =
    let same : q ≡ p = same_Some q p at in
    let first : landings_by q ≡ [] = no_front (landings_by q) (landings_of placed) none in
    let empty : slice_get (landings_by p) j ≡ slice_get [] j =
    ap (λ (xs : List Landing). slice_get xs j) (sym (ap landings_by same) ∙ first) in
    none_at j landing (sym empty ∙ lands)
lands_in (q ∷ placed) (suc k) j p landing at lands none =
    lands_in placed k j p landing at lands (no_back (landings_by q) (landings_of placed) none)

-- the table is there where something lands
flight_has : (cycles : ℕ) (placed : List Placed) (landings : List Landing) (part : List Piece)
    → (landings ≡ [] → ⊥) → HasPart (bars placed) part → HasPart (flight_of cycles placed landings) part
flight_has cycles placed [] part some has = absurd (some refl)
flight_has cycles placed (first ∷ landings) part some has = table_has cycles placed part has

bar_has : (placed : List Placed) (k j : ℕ) (p : Placed) (landing : Landing) → slice_get placed k ≡ Some p
    → slice_get (landings_by p) j ≡ Some landing
    → HasPart (bars placed) (bar p.line p.cycle landing)
bar_has placed k j p landing at lands =
    part_of_each bars_by placed k p (bar p.line p.cycle landing) at
    (part_of_each (bar p.line p.cycle) (landings_by p) j landing (bar p.line p.cycle landing) lands
    (whole_part (bar p.line p.cycle landing)))

whys_have : (whys : List Why) (part : List Piece) → HasPart (flat_map why_row whys) part
    → HasPart (whole_table whys) part
unfolding whole_table
whys_have whys part has =
    before_pieces (own_in CAUSES_BEGIN.now CAUSES_COLUMNS.now ROWS_BEGIN.now ++ flat_map why_row whys)
    (own_piece TABLE_END.now) part
    (behind_pieces (own_in CAUSES_BEGIN.now CAUSES_COLUMNS.now ROWS_BEGIN.now) (flat_map why_row whys) part has)

causes_have : (whys : List Why) (j : ℕ) (why : Why) → slice_get whys j ≡ Some why
    → HasPart (causes_part whys) (why_row why)
causes_have [] j why at = absurd cc
causes_have (first ∷ whys) j why at =
    whys_have (first ∷ whys) (why_row why)
    (part_of_each why_row (first ∷ whys) j why (why_row why) at (whole_part (why_row why)))

-- ---- the block

-- what the block has above and below its three tables
module _ (shown : Shown) (part : List Piece) where
  abbrev above : List Piece
  above = lines_part (limit_lines shown.limits)

  abbrev grid : List Piece
  grid = grid_part shown.critical.items shown.packets.cycles shown.packets.placed

  abbrev flight : List Piece
  flight = flight_part shown.packets.cycles shown.packets.placed

  abbrev causes : List Piece
  causes = causes_part shown.whys.items

  abbrev below : List Piece
  below = lines_part (register_lines shown.lives)

  block_of_causes : HasPart causes part → HasPart (block_rows shown) part
  unfolding block_rows
  block_of_causes has = before_pieces (((above ++ grid) ++ flight) ++ causes) below part
      (behind_pieces ((above ++ grid) ++ flight) causes part has)

  block_of_flight : HasPart flight part → HasPart (block_rows shown) part
  unfolding block_rows
  block_of_flight has = before_pieces (((above ++ grid) ++ flight) ++ causes) below part
      (before_pieces ((above ++ grid) ++ flight) causes part (behind_pieces (above ++ grid) flight part has))

  block_of_grid : HasPart grid part → HasPart (block_rows shown) part
  unfolding block_rows
  block_of_grid has = before_pieces (((above ++ grid) ++ flight) ++ causes) below part
      (before_pieces ((above ++ grid) ++ flight) causes part
      (before_pieces (above ++ grid) flight part (behind_pieces above grid part has)))

told_has : (shown : Shown) (placed : List Placed) (k : ℕ) (p : Placed) (part : List Piece)
    → slice_get placed k ≡ Some p
    → HasPart (block_rows shown) part → HasPart (rows_of shown placed) part
told_has shown [] k p part at has = absurd cc
told_has shown (q ∷ placed) k p part at has = has

block_has : (number : ℕ) (shown : Shown) (part : List Piece) → HasPart (rows_of shown shown.packets.placed) part
    → HasPart (block_part number shown) part
unfolding block_part
block_has number shown part has =
    let rows = rows_of shown shown.packets.placed in
    before_pieces (block_head number shown ++ rows) (own_piece SECTION_END.now) part
    (behind_pieces (block_head number shown) rows part has)

blocks_have : (number : ℕ) (shown : List Shown) (k : ℕ) (each : Shown) (part : List Piece)
    → slice_get shown k ≡ Some each
    → ((at : ℕ) → HasPart (block_part at each) part) → HasPart (blocks_from number shown) part
blocks_have number [] k each part at has = absurd cc
blocks_have number (first ∷ shown) zero each part at has =
    let same : first ≡ each = same_Some first each at in
    before_pieces (block_part number first) (blocks_from (number + 1) shown) part
    (subst (λ one. HasPart (block_part number one) part) (sym same) (has number))
blocks_have number (first ∷ shown) (suc k) each part at has =
    behind_pieces (block_part number first) (blocks_from (number + 1) shown) part
    (blocks_have (number + 1) shown k each part at has)

-- ---- the page

page_has : (text : List ℕ) (shown : List Shown) (part : List Piece) → HasPart (blocks_from 0 shown) part
    → HasPart (page_pieces text shown) part
unfolding page_pieces
page_has text shown part has =
    let before = page_head shown ++ text_part text shown ++ own_piece BLOCKS_HEAD.now in
    before_pieces (before ++ blocks_from 0 shown) page_end part
    (behind_pieces before (blocks_from 0 shown) part has)

-- what the rows of a block with an instruction have, the page has
in_page : (text : List ℕ) (shown : List Shown) (number k : ℕ) (each : Shown) (p : Placed) (part : List Piece)
    → slice_get shown number ≡ Some each → slice_get each.packets.placed k ≡ Some p
    → HasPart (block_rows each) part → HasPart (page_pieces text shown) part
in_page text shown number k each p part at placed has =
    page_has text shown part
    (blocks_have 0 shown number each part at
    (λ block. block_has block each part (told_has each each.packets.placed k p part placed has)))

pub are_all_shown : (text : List ℕ) (shown : List Shown) → AreAllShown text shown
are_all_shown text shown number k each p at sound placed =
    let path = each.critical.items in
    let row = cycle_row path each.packets.cycles each.packets.placed p.cycle in
    record {
      row =
          in_page text shown number k each p row at placed
          (block_of_grid each row
          (grid_has path each.packets.cycles each.packets.placed row
          (row_has path each.packets.cycles each.packets.placed p.cycle (before_end each k p sound placed))));
      cell = cell_has path (packet each.packets.placed p.cycle) p (all_shown each.packets k p sound placed);
    }

pub have_all_bars : (text : List ℕ) (shown : List Shown) → HaveAllBars text shown
have_all_bars text shown number k j each p landing at placed lands =
    let one = bar p.line p.cycle landing in
    let all = each.packets.placed in
    in_page text shown number k each p one at placed
    (block_of_flight each one
    (flight_has each.packets.cycles all (landings_of all) one (lands_in all k j p landing placed lands)
    (bar_has all k j p landing placed lands)))

pub have_all_causes : (text : List ℕ) (shown : List Shown) → HaveAllCauses text shown
have_all_causes text shown number k j each p why at placed has =
    in_page text shown number k each p (why_row why) at placed
    (block_of_causes each (why_row why) (causes_have each.whys.items j why has))
