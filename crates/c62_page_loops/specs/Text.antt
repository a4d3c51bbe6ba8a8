-- The lines of the text beside the loops (docs/PAGE.md, "Pipelined loops").
use Rattle.std.specs.Prelude.{ℕ, ◌+◌, Bool, false, List, [], ◌∷◌, ◌++◌, Option, Some, None, codes}
use Rattle.std.specs.List.{list_any}
use Rattle.c62_read.specs.Text.{lines_of}
use Rattle.c62_modulo.specs.declared.made.Made.{Made}
use Rattle.c62_pipeline.specs.declared.written.Pipelining.{Pipelining}
use Rattle.c62_pipeline.specs.Kernel.{has_line, kernel_of}
use Rattle.c62_markup.specs.Page.{Piece, own_piece}
use Rattle.c62_page.specs.Text.{line_row}

-- an instruction of the line is in the kernel of a loop that has packets of its own
abbrev pub kernel_has : ℕ → Option Made → Bool
kernel_has line None = false
kernel_has line (Some made) = list_any (has_line line) (kernel_of made.pipelined)

-- of one of the loops
abbrev pub is_drawn : Pipelining → ℕ → Bool
is_drawn written line = list_any (λ choice. kernel_has line choice.made) written.loops.items

abbrev pub lines_from : Pipelining → ℕ → List (List ℕ) → List Piece
lines_from written number [] = []
lines_from written number (line ∷ rest) = line_row (is_drawn written number) number line ++ lines_from written (number + 1) rest

unfoldable pub text_part : List ℕ → Pipelining → List Piece
text_part text written = own_piece (codes "<ol>\n") ++ lines_from written 1 (lines_of text) ++ own_piece (codes "</ol>\n")
