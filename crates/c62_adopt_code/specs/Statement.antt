-- What stands in a line: a comment, or a label or bars and a statement (docs/ADOPT.md, "Lines").
use Rattle.std.specs.Prelude.{ℕ, Bool, true, ◌==◌, ◌&&◌, ◌||◌, nat_le, List, length, take, Option, Some, None}
use Rattle.std.specs.List.{list_all}
use Rattle.c62_line.specs.declared.limits.TheConstants.{MOST_LINE}
use Rattle.c62_line.specs.Line.{label_field}
use Rattle.c62_token.specs.Kind.{Word}
use Rattle.c62_token.specs.Token.{begins, is_allowed}
use Rattle.c62_adopt_line.specs.Line.{behind_colon, from_solid}
use Rattle.c62_adopt_line.specs.Plain.{undotted}

-- a line that begins with `#` or `*`, behind blanks or without, is a comment
abbrev pub is_remark : List ℕ → Bool
is_remark line = begins (λ b. b == 35 || b == 42) (from_solid line)

-- what the reader of lines may read
abbrev pub is_readable : List ℕ → Bool
is_readable line = list_all is_allowed line && nat_le (length line) MOST_LINE

-- as much of a line as a line may have
abbrev pub front_of : List ℕ → List ℕ
front_of line = take MOST_LINE line

abbrev pub label_of : List ℕ → Option Word
label_of line = label_field (undotted true line)

-- what stands behind the label, where there is one
abbrev pub behind_label : Option Word → List ℕ → List ℕ
behind_label (Some label) line = behind_colon line
behind_label None line = line
