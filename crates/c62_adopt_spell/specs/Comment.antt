-- Comments between `/*` and `*/`, and lines that are comments (docs/ADOPT.md, "Lines" and "Other spellings").
use Rattle.std.specs.Prelude.{ℕ, Bool, true, false, ◌==◌, ◌&&◌, ◌||◌, List, [], ◌∷◌, Option, Some, None, if◌then◌else◌}
use Rattle.c62_token.specs.Token.{begins}
use Rattle.c62_adopt_line.specs.Line.{from_solid}
use Rattle.c62_adopt_spell.specs.declared.comment.Place.{Place}
use Rattle.c62_adopt_spell.specs.declared.comment.Place.TheVariants.{Code, Opening, Inside, Closing, Remark}

-- a line that begins with `#` or `*`, behind blanks or without, is a comment
abbrev pub is_remark : List ℕ → Bool
is_remark line = begins (λ b. b == 35 || b == 42) (from_solid line)

-- ---- between `/*` and `*/`

abbrev pub begins_star : List ℕ → Bool
begins_star line = begins (λ b. b == 42) line

abbrev pub begins_slash : List ℕ → Bool
begins_slash line = begins (λ b. b == 47) line

-- behind this byte, before that line
abbrev pub code_behind : ℕ → List ℕ → Place
code_behind b line = if b == 59 then Remark else (if b == 47 && begins_star line then Opening else Code)

abbrev pub place_behind : Place → ℕ → List ℕ → Place
place_behind Code b line = code_behind b line
place_behind Opening b line = Inside
place_behind Inside b line = if b == 42 && begins_slash line then Closing else Inside
place_behind Closing b line = Code
place_behind Remark b line = Remark

-- the first byte of a comment comes to its place, and the others stand in it
abbrev pub is_opening : Place → Bool
is_opening Opening = true
is_opening place = false

abbrev pub is_within : Place → Bool
is_within Opening = true
is_within Inside = true
is_within Closing = true
is_within place = false

-- a byte, or a blank in its place
abbrev pub byte_of : Place → ℕ → List ℕ → ℕ
byte_of place b line = if is_within place || is_opening (place_behind place b line) then 32 else b

abbrev pub blanked : Place → List ℕ → List ℕ
blanked place [] = []
blanked place (b ∷ line) = byte_of place b line ∷ blanked (place_behind place b line) line

abbrev pub place_at_end : Place → List ℕ → Place
place_at_end place [] = place
place_at_end place (b ∷ line) = place_at_end (place_behind place b line) line

-- a line with blanks in place of its comments, where all of them end
abbrev pub uncommented : List ℕ → Option (List ℕ)
uncommented line = if is_within (place_at_end Code line) then None else Some (blanked Code line)
