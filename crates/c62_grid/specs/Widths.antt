-- How wide the columns of a picture are (docs/SHOW.md, "The grid").
use Rattle.std.specs.Prelude.{max, List, length, decimal, fold}
use Rattle.c62_op.specs.Table.{mnemonic_of}
use Rattle.c62_insn.specs.Insn.{op_of}
use Rattle.c62_packet.specs.declared.placed.Placed.{Placed}
use Rattle.c62_grid.specs.declared.widths.Widths.{Widths}

-- room for `100%`
abbrev pub least_widths : Widths
least_widths = record { line = 0; word = 4 }

-- room for one more instruction: its line and its mnemonic
abbrev pub widened : Widths → Placed → Widths
widened widths p = record { line = max widths.line (length (decimal p.line)); word = max widths.word (length (mnemonic_of (op_of p.insn))) }

-- room for each of these
abbrev pub widths_with : Widths → List Placed → Widths
widths_with widths placed = fold widened widths placed
