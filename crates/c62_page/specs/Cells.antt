-- The cells of a cycle: what is issued on each unit, and what takes each path (docs/PAGE.md, "The grid").
use Rattle.std.specs.Prelude.{ℕ, ◌==◌, Bool, true, false, List, ◌++◌, codes, find, Option, Some, None}
use Rattle.std.specs.List.{flat_map, list_any}
use Rattle.c62_op.specs.Units.{all_units}
use Rattle.c62_op.specs.Table.{mnemonic_of}
use Rattle.c62_op.specs.declared.operands.Op.{Op}
use Rattle.c62_op.specs.declared.operands.Op.TheVariants.{Shl, Shr, Shru, Ext, Extu, Mvk, Mvklh, Mpy, Mpyu, Mpyus, Mpysu, Mpyh, Mpyhu, Mpyhl, Mpylh, Ldb, Ldbu, Ldh, Ldhu, Ldw, Stb, Sth, Stw, B as Branch}
use Rattle.c62_insn.specs.Insn.{op_of}
use Rattle.c62_packet.specs.declared.placed.Placed.{Placed}
use Rattle.c62_grid.specs.Grid.{is_on, mark}
use Rattle.c62_grid.specs.Paths.{all_paths, takes}
use Rattle.c62_markup.specs.Page.{Piece, number_in, own_in, own_piece, text_in}
use Rattle.c62_page.specs.declared.tags.TheConstants.{CELL_CLASS, CELL_ID, DATA_LINE, TO_LINE}
use Rattle.c62_page.specs.Text.{linked}

-- ---- an instruction

-- the class of its cell
abbrev pub kind_of : Op → List ℕ
kind_of Ldb = codes "load"
kind_of Ldbu = codes "load"
kind_of Ldh = codes "load"
kind_of Ldhu = codes "load"
kind_of Ldw = codes "load"
kind_of Stb = codes "store"
kind_of Sth = codes "store"
kind_of Stw = codes "store"
kind_of Branch = codes "branch"
kind_of Mpy = codes "multiply"
kind_of Mpyu = codes "multiply"
kind_of Mpyus = codes "multiply"
kind_of Mpysu = codes "multiply"
kind_of Mpyh = codes "multiply"
kind_of Mpyhu = codes "multiply"
kind_of Mpyhl = codes "multiply"
kind_of Mpylh = codes "multiply"
kind_of Shl = codes "shift"
kind_of Shr = codes "shift"
kind_of Shru = codes "shift"
kind_of Ext = codes "shift"
kind_of Extu = codes "shift"
kind_of Mvk = codes "constant"
kind_of Mvklh = codes "constant"
kind_of _ = codes "other"

-- a line is critical
abbrev pub is_marked : List ℕ → ℕ → Bool
is_marked path line = list_any (λ each. each == line) path

abbrev pub class_end : (is_marked : Bool) → List ℕ
class_end true = codes " path'>"
class_end false = codes "'>"

unfoldable pub cell_begin : List ℕ → Placed → List Piece
cell_begin path p =
    number_in CELL_ID.now p.line DATA_LINE.now
    ++ number_in (codes "") p.line CELL_CLASS.now
    ++ own_in (kind_of (op_of p.insn)) (class_end (is_marked path p.line)) (codes "")

-- its line, `*` where that is critical, and its mnemonic
unfoldable pub insn_cell : List ℕ → Placed → List Piece
insn_cell path p =
    cell_begin path p ++ linked TO_LINE.now p.line
    ++ text_in (mark path p.line) (mnemonic_of (op_of p.insn)) (codes "</td>")

-- ---- the cells of a cycle

abbrev pub empty_cell : List Piece
empty_cell = own_piece (codes "<td>.</td>")

abbrev pub unit_cell : List ℕ → Option Placed → List Piece
unit_cell path None = empty_cell
unit_cell path (Some p) = insn_cell path p

-- what a packet has on each unit
abbrev pub unit_cells : List ℕ → List Placed → List Piece
unit_cells path issued = flat_map (λ unit. unit_cell path (find (is_on unit) issued)) all_units

abbrev pub path_cell : Option Placed → List Piece
path_cell None = empty_cell
path_cell (Some p) = number_in (codes "<td>") p.line (codes "</td>")

-- what of a packet takes each path
abbrev pub path_cells : List Placed → List Piece
path_cells issued = flat_map (λ path. path_cell (find (takes path) issued)) all_paths
