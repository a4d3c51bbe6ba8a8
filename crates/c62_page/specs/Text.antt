-- The lines of the text beside the blocks (docs/PAGE.md, "The text").
use Rattle.std.specs.Prelude.{ℕ, ◌+◌, ◌==◌, Bool, true, false, List, [], ◌∷◌, ◌++◌, codes}
use Rattle.std.specs.List.{list_any}
use Rattle.c62_read.specs.Text.{lines_of}
use Rattle.c62_packet.specs.declared.placed.Placed.{Placed}
use Rattle.c62_show.specs.declared.shown.Shown.{Shown}
use Rattle.c62_markup.specs.Page.{Piece, number_in, own_piece, text_in}
use Rattle.c62_page.specs.declared.tags.TheConstants.{DATA_LINE, LINE_END, LINE_ID, TO_CELL}

-- one of these instructions stands in this line
abbrev pub has_line : ℕ → List Placed → Bool
has_line number placed = list_any (λ p. p.line == number) placed

-- an instruction of the blocks stands in this line
abbrev pub is_shown : List Shown → ℕ → Bool
is_shown shown number = list_any (λ each. has_line number each.packets.placed) shown

-- the number of a line, which leads where the tag that begins with these bytes says
unfoldable pub linked : List ℕ → ℕ → List Piece
linked begin number = number_in begin number (codes "'>") ++ number_in (codes "") number (codes "</a>")

-- what a line begins with: its number, which leads to the cell of its instruction where it has one
unfoldable pub instruction_begin : ℕ → List Piece
instruction_begin number =
    number_in LINE_ID.now number DATA_LINE.now ++ number_in (codes "") number (codes "'>")
    ++ linked TO_CELL.now number

unfoldable pub other_begin : ℕ → List Piece
other_begin number = number_in LINE_ID.now number (codes "'>") ++ number_in (codes "<b>") number (codes "</b>")

abbrev pub line_begin : (is_shown : Bool) → ℕ → List Piece
line_begin true number = instruction_begin number
line_begin false number = other_begin number

unfoldable pub line_row : (is_shown : Bool) → ℕ → List ℕ → List Piece
line_row is_shown number line = line_begin is_shown number ++ text_in (codes "<code>") line LINE_END.now

-- the lines from this number on
abbrev pub lines_from : List Shown → ℕ → List (List ℕ) → List Piece
lines_from shown number [] = []
lines_from shown number (line ∷ rest) = line_row (is_shown shown number) number line ++ lines_from shown (number + 1) rest

unfoldable pub text_part : List ℕ → List Shown → List Piece
text_part text shown = own_piece (codes "<ol>\n") ++ lines_from shown 1 (lines_of text) ++ own_piece (codes "</ol>\n")
