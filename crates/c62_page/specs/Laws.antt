-- What holds of pages.
use Rattle.std.specs.Prelude.{◌≡◌, ℕ, List, ◌++◌, length, map, Some, None, slice_get}
use Rattle.std.specs.List.{filter, flat_map}
use Rattle.c62_read.specs.Text.{lines_of}
use Rattle.c62_packet.specs.declared.placed.Placed.{Placed}
use Rattle.c62_packet.specs.Packed.{IsPacketBlock}
use Rattle.c62_grid.specs.declared.landing.Landing.{Landing}
use Rattle.c62_grid.specs.Grid.{packet}
use Rattle.c62_grid.specs.Landing.{landings_by}
use Rattle.c62_show.specs.declared.shown.Shown.{Shown}
use Rattle.c62_why.specs.declared.why.Why.{Why}
use Rattle.c62_markup.specs.Laws.{is_angle}
use Rattle.c62_markup.specs.Page.{Piece, own}
use Rattle.c62_page.specs.Cells.{insn_cell, unit_cells}
use Rattle.c62_page.specs.Grid.{cycle_row}
use Rattle.c62_page.specs.Flight.{bar}
use Rattle.c62_page.specs.Causes.{why_row}
use Rattle.c62_page.specs.Page.{page_of, page_pieces}

-- ---- what the page's maker wrote

-- a block without its label
abbrev pub unlabelled : Shown → Shown
unlabelled shown = record shown { packets = record shown.packets { label = None } }

-- two texts of as many lines, and the same blocks of them but for their labels
pub record DifferInTexts (text other : List ℕ) (shown others : List Shown) : Type 0 where
  pub lines : length (lines_of text) ≡ length (lines_of other)
  pub blocks : map unlabelled shown ≡ map unlabelled others

-- their pages have the same `<` and `>`, in their order: none comes from a line, with its operands and its comment, or from a label
abbrev pub AnglesAreTheSame : List ℕ → List ℕ → List Shown → List Shown → Type 0
AnglesAreTheSame text other shown others =
    DifferInTexts text other shown others → filter is_angle (page_of text shown) ≡ filter is_angle (page_of other others)

-- and what the page's maker wrote of them is the same
abbrev pub OwnIsTheSame : List ℕ → List ℕ → List Shown → List Shown → Type 0
OwnIsTheSame text other shown others =
    DifferInTexts text other shown others → flat_map own (page_pieces text shown) ≡ flat_map own (page_pieces other others)

-- ---- what is shown

-- pieces have some of them one behind the other
pub record HasPart (pieces part : List Piece) : Type 0 where
  pub before : List Piece
  pub behind : List Piece
  pub split : pieces ≡ before ++ (part ++ behind)

-- the row of an instruction's cycle is in the page, and in it the instruction's cell
pub record IsShown (text : List ℕ) (shown : List Shown) (each : Shown) (p : Placed) : Type 0 where
  pub row : HasPart (page_pieces text shown) (cycle_row each.critical.items each.packets.cycles each.packets.placed p.cycle)
  pub cell : HasPart (unit_cells each.critical.items (packet each.packets.placed p.cycle)) (insn_cell each.critical.items p)

-- that holds of each instruction of the blocks
abbrev pub AreAllShown : List ℕ → List Shown → Type 0
AreAllShown text shown =
    (number k : ℕ) (each : Shown) (p : Placed) → slice_get shown number ≡ Some each → IsPacketBlock each.packets → slice_get each.packets.placed k ≡ Some p
    → IsShown text shown each p

-- and each of its landings behind its issue has a bar
abbrev pub HaveAllBars : List ℕ → List Shown → Type 0
HaveAllBars text shown =
    (number k j : ℕ) (each : Shown) (p : Placed) (landing : Landing) → slice_get shown number ≡ Some each → slice_get each.packets.placed k ≡ Some p
    → slice_get (landings_by p) j ≡ Some landing → HasPart (page_pieces text shown) (bar p.line p.cycle landing)

-- each cause has a row, where the block has instructions
abbrev pub HaveAllCauses : List ℕ → List Shown → Type 0
HaveAllCauses text shown =
    (number k j : ℕ) (each : Shown) (p : Placed) (why : Why) → slice_get shown number ≡ Some each → slice_get each.packets.placed k ≡ Some p
    → slice_get each.whys.items j ≡ Some why → HasPart (page_pieces text shown) (why_row why)
