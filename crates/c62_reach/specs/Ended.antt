-- The lines of a text with their ends.
use Rattle.std.specs.Prelude.{ℕ, ◌==◌, List, [], ◌∷◌, if◌then◌else◌}
use Rattle.c62_token.specs.Token.{grow}

-- a line ends behind its line feed, or at the end of the text
abbrev pub ended_lines : List ℕ → List (List ℕ)
ended_lines [] = []
ended_lines (b ∷ rest) = if b == 10 then (b ∷ []) ∷ ended_lines rest else grow b (ended_lines rest)
