-- The kernels of a program's pipelined loops (docs/SHOW.md, "Pipelined loops").
use Rattle.std.specs.Prelude.{ℕ, ◌+◌, ◌-◌, ◌^◌, ◌==◌, nat_lt, min, Bool, true, false, List, [], ◌∷◌, ◌++◌, codes, decimal, drop, take, find, count_by, fold, map, Option, Some, None, if◌then◌else◌}
use Rattle.std.specs.List.{flat_map, list_any}
use Rattle.c62_op.specs.Units.{all_units}
use Rattle.c62_op.specs.Table.{mnemonic_of}
use Rattle.c62_insn.specs.Insn.{op_of}
use Rattle.c62_read.specs.Block.{Serial}
use Rattle.c62_packet.specs.declared.placed.Placed.{Placed}
use Rattle.c62_rows.specs.declared.rows.Row.{Row}
use Rattle.c62_grid.specs.declared.widths.Widths.{Widths}
use Rattle.c62_grid.specs.Widths.{least_widths, widths_with}
use Rattle.c62_grid.specs.Words.{spaces, left, right, line, unit_name}
use Rattle.c62_grid.specs.Grid.{is_on, range_text}
use Rattle.c62_loop_match.specs.declared.parts.Pipelined.{Pipelined}
use Rattle.c62_modulo.specs.declared.made.Made.{Made}
use Rattle.c62_pipeline.specs.declared.chosen.Choice.{Choice}
use Rattle.c62_pipeline.specs.declared.written.Pipelining.{Pipelining as Written}
use Rattle.c62_pipeline.specs.Lines.{choice_line}

-- ---- the rows of a kernel, and those behind it

abbrev pub behind_prolog : Pipelined → List Row
behind_prolog loop = drop (loop.first + loop.prolog) loop.rows.rows.items

abbrev pub kernel_of : Pipelined → List Row
kernel_of loop = take loop.kernel (behind_prolog loop)

abbrev pub epilog_of : Pipelined → List Row
epilog_of loop = drop loop.kernel (behind_prolog loop)

abbrev pub has_line : ℕ → Row → Bool
has_line number row = list_any (λ each. each.line == number) row.insns.items

-- The stage of an instruction of a kernel: how many passes begin behind the one that issues it in the last iteration's. These are in the
-- epilog.
abbrev pub stage_of : List Row → Placed → ℕ
stage_of epilog p = count_by (has_line p.line) epilog

-- ---- the picture

-- the line of an instruction, its stage, and its mnemonic
unfoldable pub stage_cell : Widths → List Row → Placed → List ℕ
stage_cell widths epilog p =
    codes " " ++ right widths.line (decimal p.line) ++ codes "/" ++ left 3 (decimal (stage_of epilog p)) ++ left widths.word (mnemonic_of (op_of p.insn))

-- a word that stands where a mnemonic would
unfoldable pub empty_cell : Widths → List ℕ → List ℕ
empty_cell widths word = spaces widths.line ++ codes "     " ++ left widths.word word

abbrev pub cell : Widths → List Row → Option Placed → List ℕ
cell widths epilog None = empty_cell widths (codes ".")
cell widths epilog (Some p) = stage_cell widths epilog p

-- a number that is as large as any that is written stays that
abbrev pub later : ℕ → ℕ → ℕ
later cycle cycles = min (cycle + cycles) (2 ^ 64 - 1)

-- cycles in which nothing is issued
unfoldable pub pause_text : ℕ → ℕ → List ℕ
pause_text first last = line (right 5 (range_text first last) ++ codes "  idle")

-- what is issued in a cycle, on each unit
unfoldable pub issue_text : Widths → List Row → ℕ → List Placed → List ℕ
issue_text widths epilog cycle insns =
    line (right 5 (decimal cycle) ++ flat_map (λ unit. cell widths epilog (find (is_on unit) insns)) all_units)

-- the cycles of a row behind that in which it is issued
abbrev pub rest_text : ℕ → ℕ → List ℕ
rest_text cycle idle = if idle == 0 then [] else pause_text (later cycle 1) (later cycle idle)

-- a row from this cycle on
abbrev pub row_text : Widths → List Row → ℕ → List Placed → ℕ → List ℕ
row_text widths epilog cycle [] idle = pause_text cycle (later cycle idle)
row_text widths epilog cycle (p ∷ insns) idle = issue_text widths epilog cycle (p ∷ insns) ++ rest_text cycle idle

abbrev pub rows_text : Widths → List Row → ℕ → List Row → List ℕ
rows_text widths epilog cycle [] = []
rows_text widths epilog cycle (row ∷ rows) =
    row_text widths epilog cycle row.insns.items row.idle ++ rows_text widths epilog (later (later cycle row.idle) 1) rows

-- the names of the units
unfoldable pub heads : Widths → List ℕ
heads widths = line (codes "cycle" ++ flat_map (λ unit. empty_cell widths (unit_name unit)) all_units)

abbrev pub widths_of : List Row → Widths
widths_of rows = fold (λ widths row. widths_with widths row.insns.items) least_widths rows

-- the rows of a kernel, with the stage of each instruction
abbrev pub kernel_text : Pipelined → List ℕ
kernel_text loop = heads (widths_of (kernel_of loop)) ++ rows_text (widths_of (kernel_of loop)) (epilog_of loop) 0 (kernel_of loop)

abbrev pub made_text : Option Made → List ℕ
made_text None = []
made_text (Some made) = kernel_text made.pipelined

-- what became of a loop, and below it its kernel, where it has one
unfoldable pub choice_text : List Serial → Choice → List ℕ
choice_text blocks choice = choice_line blocks choice ++ made_text choice.made

-- an empty line stands between two loops
abbrev pub gap : ℕ → List ℕ
gap number = if number == 0 then [] else codes "\n"

-- the loops from this number on
abbrev pub kernels_from : List Serial → (number : ℕ) → List Choice → List ℕ
kernels_from blocks number [] = []
kernels_from blocks number (choice ∷ choices) = gap number ++ choice_text blocks choice ++ kernels_from blocks (number + 1) choices

abbrev pub kernels : List Serial → Written → List ℕ
kernels blocks written = kernels_from blocks 0 written.loops.items
