-- The lines of a listing, with their ends (docs/LISTING.md, "Faults of a line").
use Rattle.std.specs.Prelude.{ℕ, Bool, true, false, not, ◌==◌, List, [], ◌∷◌, if◌then◌else◌}
use Rattle.c62_read.specs.Text.{without_return}

-- a line, and whether a line feed ends it
pub record Line : Type 0 where
  pub bytes : List ℕ
  pub fed : Bool

-- this byte stands before these lines and belongs to the first of them
abbrev pub put : ℕ → List Line → List Line
put b [] = record { bytes = b ∷ []; fed = false } ∷ []
put b (line ∷ lines) = record { bytes = b ∷ line.bytes; fed = line.fed } ∷ lines

-- the lines of a text: the end of the text ends a line where bytes stand before it
abbrev pub lines_in : List ℕ → List Line
lines_in [] = []
lines_in (b ∷ rest) = if b == 10 then record { bytes = []; fed = true } ∷ lines_in rest else put b (lines_in rest)

abbrev pub ends_in_return : List ℕ → Bool
ends_in_return [] = false
ends_in_return (b ∷ []) = b == 13
ends_in_return (b ∷ c ∷ bytes) = ends_in_return (c ∷ bytes)

-- a line without its end: a carriage return before the line feed is of the end
abbrev pub content : Line → List ℕ
content line = if line.fed then without_return line.bytes else line.bytes

-- a line feed alone ends the line
abbrev pub is_ended : Line → Bool
is_ended line = if line.fed then not (ends_in_return line.bytes) else false

abbrev pub is_empty : List ℕ → Bool
is_empty [] = true
is_empty (b ∷ bytes) = false

-- the first of these lines is there and has bytes
abbrev pub begin_filled : List Line → Bool
begin_filled [] = false
begin_filled (line ∷ lines) = not (is_empty (content line))
