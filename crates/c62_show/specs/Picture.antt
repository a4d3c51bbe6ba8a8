-- The picture of a text's blocks (docs/SHOW.md).
use Rattle.std.specs.Prelude.{ℕ, ◌+◌, ◌==◌, List, [], ◌∷◌, ◌++◌, length, fold, codes, if◌then◌else◌, Option, Some, None, option_map}
use Rattle.c62_packet.specs.declared.placed.Placed.{Placed}
use Rattle.c62_show.specs.declared.limits.Limits.{Limits}
use Rattle.c62_show.specs.declared.shown.Shown.{Shown}
use Rattle.c62_grid.specs.declared.widths.Widths.{Widths}
use Rattle.c62_show.specs.Limits.{least_of}
use Rattle.c62_grid.specs.Widths.{least_widths, widths_with}
use Rattle.c62_show.specs.Head.{name, size, path_line, units_line}
use Rattle.c62_grid.specs.Grid.{grid}
use Rattle.c62_show.specs.Whys.{whys_table}
use Rattle.c62_show.specs.Registers.{register_lines}

-- the lines of the critical path and of the greatest need, where they are known
abbrev pub limit_lines : Option Limits → List ℕ
limit_lines None = []
limit_lines (Some limits) = path_line limits ++ units_line limits.need

-- what is told of a block that has instructions, behind its name
unfoldable pub block_rows : Widths → Shown → List ℕ
block_rows widths shown =
    size (length shown.packets.placed) shown.packets.cycles (option_map least_of shown.limits)
    ++ limit_lines shown.limits
    ++ grid widths shown.critical.items shown.packets.cycles shown.packets.placed
    ++ whys_table shown.whys.items
    ++ register_lines shown.lives

abbrev pub rows_of : Widths → Shown → List Placed → List ℕ
rows_of widths shown [] = codes ": no instruction\n"
rows_of widths shown (p ∷ placed) = block_rows widths shown

-- a block
unfoldable pub block_text : Widths → ℕ → Shown → List ℕ
block_text widths number shown = name number shown.packets.label ++ rows_of widths shown shown.packets.placed

-- an empty line before each block but the first
abbrev pub gap : ℕ → List ℕ
gap number = if number == 0 then [] else codes "\n"

-- the blocks from this number on
abbrev pub blocks_from : Widths → ℕ → List Shown → List ℕ
blocks_from widths number [] = []
blocks_from widths number (shown ∷ rest) = gap number ++ block_text widths number shown ++ blocks_from widths (number + 1) rest

-- the columns are as wide in all blocks
abbrev pub widths_of : List Shown → Widths
widths_of shown = fold (λ widths each. widths_with widths each.packets.placed) least_widths shown

abbrev pub picture : List Shown → List ℕ
picture shown = blocks_from (widths_of shown) 0 shown
