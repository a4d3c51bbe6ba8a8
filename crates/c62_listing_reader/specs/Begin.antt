-- How the lines of a listing begin (docs/LISTING.md, "Packets" and "Faults of a line").
use Rattle.std.specs.Prelude.{ℕ, Bool, true, false, not, ◌==◌, ◌&&◌, nat_eq, if◌then◌else◌, List, [], ◌∷◌, drop, codes, take_while}
use Rattle.std.specs.List.{list_any, starts_with}
use Rattle.c62_listing_reader.specs.declared.line.Front.{Front}
use Rattle.c62_listing_reader.specs.declared.line.Front.TheVariants.{Empty, First, Beside, Label, Stray}
use Rattle.c62_listing_reader.specs.Text.{is_empty}

-- a colon stands before any comment
abbrev pub has_colon : List ℕ → Bool
has_colon bytes = list_any (λ b. b == 58) (take_while (λ b. not (b == 59)) bytes)

-- A line with a colon before any comment. One that begins with `*` is a comment.
abbrev pub is_label_line : List ℕ → Bool
is_label_line [] = false
is_label_line (b ∷ bytes) = not (b == 42) && has_colon (b ∷ bytes)

abbrev pub front_of : List ℕ → Front
front_of bytes =
    if is_empty bytes then Empty
    else (if starts_with nat_eq bytes (codes "   ") then First
    else (if starts_with nat_eq bytes (codes "|| ") then Beside
    else (if is_label_line bytes then Label else Stray)))

-- what stands behind the bars, which begins with a blank; of others the whole line
abbrev pub rest_of : Front → List ℕ → List ℕ
rest_of Beside bytes = drop 2 bytes
rest_of _ bytes = bytes

abbrev pub is_gap : Front → Bool
is_gap Empty = true
is_gap _ = false

abbrev pub is_beside : Front → Bool
is_beside Beside = true
is_beside _ = false
