-- Why each instruction isn't issued a cycle earlier (docs/PAGE.md, "Why not earlier").
use Rattle.std.specs.Prelude.{List, [], ◌∷◌, ◌++◌, codes}
use Rattle.std.specs.Fmt.{signed_decimal}
use Rattle.std.specs.List.{flat_map}
use Rattle.c62_why.specs.declared.held.Held.{Held as Dependence}
use Rattle.c62_why.specs.declared.why.Why.{Why}
use Rattle.c62_why.specs.declared.why.Cause.{Cause}
use Rattle.c62_why.specs.declared.why.Cause.TheVariants.{First, Held, Taken, Nothing}
use Rattle.c62_show.specs.Whys.{cause_words}
use Rattle.c62_markup.specs.Page.{Piece, number_in, own_in, own_piece, text_in}
use Rattle.c62_page.specs.declared.tags.TheConstants.{DATA_AFTER, DATA_NEEDS, ROW_END, ROW_LINE, TABLE_END}
use Rattle.c62_page.specs.declared.frame.TheConstants.{CAUSES_BEGIN, CAUSES_COLUMNS, ROWS_BEGIN}

-- the line that an instruction waits for, and by how many cycles it must come behind that
unfoldable pub held_marks : Dependence → List Piece
held_marks held =
    number_in DATA_AFTER.now held.after (codes "'") ++ own_in DATA_NEEDS.now (signed_decimal held.needs) (codes "'")

-- or the line that has taken the first of what it lacks
abbrev pub cause_marks : Cause → List Piece
cause_marks First = []
cause_marks (Held held) = held_marks held
cause_marks (Taken shortage) = number_in DATA_AFTER.now shortage.first.by (codes "'")
cause_marks Nothing = []

-- the line of an instruction, its cycle and its slack
unfoldable pub why_columns : Why → List Piece
why_columns why =
    number_in (codes "><td>") why.line (codes "</td>")
    ++ number_in (codes "<td>") why.cycle (codes "</td>")
    ++ number_in (codes "<td>") why.slack (codes "</td>")

unfoldable pub why_row : Why → List Piece
why_row why =
    number_in ROW_LINE.now why.line (codes "'")
    ++ cause_marks why.cause
    ++ why_columns why
    ++ text_in (codes "<td>") (cause_words why.cause) ROW_END.now

unfoldable pub whole_table : List Why → List Piece
whole_table whys = own_in CAUSES_BEGIN.now CAUSES_COLUMNS.now ROWS_BEGIN.now ++ flat_map why_row whys ++ own_piece TABLE_END.now

-- the table, where the causes are known
abbrev pub causes_part : List Why → List Piece
causes_part [] = []
causes_part (why ∷ whys) = whole_table (why ∷ whys)
