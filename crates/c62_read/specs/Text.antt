-- The lines of a text.
use Rattle.std.specs.Prelude.{ℕ, Bool, ◌==◌, ◌&&◌, List, [], ◌∷◌, if◌then◌else◌}
use Rattle.c62_token.specs.Token.{begins, grow}

abbrev pub is_line_feed : ℕ → Bool
is_line_feed b = b == 10

-- a line without the carriage return that stands last
abbrev pub without_return : List ℕ → List ℕ
without_return [] = []
without_return (b ∷ []) = if b == 13 then [] else b ∷ []
without_return (b ∷ c ∷ line) = b ∷ without_return (c ∷ line)

-- The lines of a text, without their ends. The end of the text ends a line where bytes stand before it.
abbrev pub lines_of : List ℕ → List (List ℕ)
lines_of [] = []
lines_of (b ∷ rest) =
    if b == 10 then [] ∷ lines_of rest
    else (if b == 13 && begins is_line_feed rest then lines_of rest
    else grow b (lines_of rest))
