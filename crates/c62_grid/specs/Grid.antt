-- The rows of a block (docs/SHOW.md, "The grid").
use Rattle.std.specs.Prelude.{ℕ, ◌-◌, ◌==◌, nat_lt, Bool, ◌||◌, List, [], ◌∷◌, ◌++◌, codes, decimal, find, count_by, Option, Some, None, if◌then◌else◌}
use Rattle.std.specs.List.{flat_map, range_with_len, list_any}
use Rattle.c62_op.specs.declared.register.Unit.{Unit as FunctionalUnit}
use Rattle.c62_op.specs.Units.{all_units, index_of}
use Rattle.c62_op.specs.Table.{mnemonic_of}
use Rattle.c62_insn.specs.Insn.{op_of}
use Rattle.c62_packet.specs.declared.placed.Placed.{Placed}
use Rattle.c62_grid.specs.declared.widths.Widths.{Widths}
use Rattle.c62_grid.specs.Words.{spaces, left, right, line, unit_name}
use Rattle.c62_grid.specs.Share.{share}
use Rattle.c62_grid.specs.Paths.{path_names, path_cells, path_uses}
use Rattle.c62_grid.specs.Landing.{landings_of, landed_between, landed_in_row, landing_list}

-- ---- cells

-- a word that stands where a mnemonic would
unfoldable pub word_cell : Widths → List ℕ → List ℕ
word_cell widths word = spaces widths.line ++ codes "  " ++ left widths.word word

-- whether a line is on the critical path
abbrev pub mark : List ℕ → ℕ → List ℕ
mark path number = if list_any (λ each. each == number) path then codes "*" else codes " "

-- the line of an instruction with its mark, and its mnemonic
unfoldable pub insn_cell : Widths → List ℕ → Placed → List ℕ
insn_cell widths path p = codes " " ++ right widths.line (decimal p.line) ++ mark path p.line ++ left widths.word (mnemonic_of (op_of p.insn))

abbrev pub cell : Widths → List ℕ → Option Placed → List ℕ
cell widths path None = word_cell widths (codes ".")
cell widths path (Some p) = insn_cell widths path p

abbrev pub is_on : FunctionalUnit → Placed → Bool
is_on unit p = index_of p.unit == index_of unit

-- an instruction, where it is issued in this cycle
abbrev pub issued_at : ℕ → Placed → List Placed
issued_at cycle p = if p.cycle == cycle then p ∷ [] else []

-- what is issued in a cycle
abbrev pub packet : List Placed → ℕ → List Placed
packet placed cycle = flat_map (issued_at cycle) placed

-- what a packet has on each unit
abbrev pub cells : Widths → List ℕ → List Placed → List ℕ
cells widths path issued = flat_map (λ unit. cell widths path (find (is_on unit) issued)) all_units

-- ---- rows

-- a cycle in which something is issued: what is, what takes each path, and what lands
unfoldable pub cycle_row : Widths → List ℕ → List Placed → ℕ → List ℕ
cycle_row widths path placed cycle =
    right 5 (decimal cycle) ++ cells widths path (packet placed cycle) ++ path_cells widths (packet placed cycle)
    ++ flat_map (landed_in_row cycle) (landings_of placed)

abbrev pub is_issued : List Placed → ℕ → Bool
is_issued placed cycle = list_any (λ p. p.cycle == cycle) placed

-- a cycle is the first, or something is issued in the one before it
abbrev pub begins : List Placed → ℕ → Bool
begins placed cycle = cycle == 0 || is_issued placed (cycle - 1)

abbrev pub is_behind : ℕ → Placed → Bool
is_behind cycle p = nat_lt cycle p.cycle

abbrev pub cycle_or : ℕ → Option Placed → ℕ
cycle_or cycles None = cycles
cycle_or cycles (Some p) = p.cycle

-- the next cycle in which something is issued, or the length of the block
abbrev pub next_issue : List Placed → ℕ → ℕ → ℕ
next_issue placed cycles cycle = cycle_or cycles (find (is_behind cycle) placed)

-- `1-4`, or `5`
unfoldable pub range_text : ℕ → ℕ → List ℕ
range_text first last = decimal first ++ (if nat_lt first last then codes "-" ++ decimal last else [])

-- cycles in which nothing is issued, up to the next in which something is: the first and the last, and what lands
unfoldable pub pause_row : Widths → List Placed → ℕ → ℕ → List ℕ
pause_row widths placed first next =
    right 5 (range_text first (next - 1)) ++ spaces widths.line ++ codes "  idle" ++ landing_list (landed_between (landings_of placed) first next)

-- the row of a cycle in which something is issued, or of all cycles up to the next such one where this is the first of them
unfoldable pub row_at : Widths → List ℕ → ℕ → List Placed → ℕ → List ℕ
row_at widths path cycles placed cycle =
    if is_issued placed cycle then line (cycle_row widths path placed cycle)
    else (if begins placed cycle then line (pause_row widths placed cycle (next_issue placed cycles cycle))
    else [])

abbrev pub rows : Widths → List ℕ → ℕ → List Placed → List ℕ
rows widths path cycles placed = flat_map (row_at widths path cycles placed) (range_with_len 0 cycles)

-- ---- the whole

-- the names of the units and of the paths
unfoldable pub heads : Widths → List ℕ
heads widths = codes "cycle" ++ flat_map (λ unit. word_cell widths (unit_name unit)) all_units ++ path_names widths ++ codes " lands"

-- in how many of 100 cycles a unit is used, and each unit
abbrev pub use_cell : Widths → ℕ → List Placed → FunctionalUnit → List ℕ
use_cell widths cycles placed unit = word_cell widths (share (count_by (is_on unit) placed) cycles)

abbrev pub use_cells : Widths → ℕ → List Placed → List ℕ
use_cells widths cycles placed = flat_map (use_cell widths cycles placed) all_units

abbrev pub use_row : Widths → ℕ → List Placed → List ℕ
use_row widths cycles placed = right 5 (codes "use") ++ use_cells widths cycles placed ++ path_uses widths cycles placed

-- all rows of a block
unfoldable pub grid : Widths → List ℕ → ℕ → List Placed → List ℕ
grid widths path cycles placed = line (heads widths) ++ rows widths path cycles placed ++ line (use_row widths cycles placed)
