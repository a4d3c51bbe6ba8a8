-- What functions find.
use Rattle.std.specs.Prelude.{◌≡◌, ℕ, List, [], ◌∷◌, Option, Some, None}
use Rattle.std.specs.Borrow.{Bor}
use Rattle.c62_reach.specs.Ended.{ended_lines}

-- the first line with its end, and the text behind it
abbrev pub IsFirstEnded : Option (Bor (List ℕ) × Bor (List ℕ)) → List ℕ → Type 0
IsFirstEnded None text = text ≡ []
IsFirstEnded (Some found) text = ended_lines text ≡ found.0.now ∷ ended_lines found.1.now
