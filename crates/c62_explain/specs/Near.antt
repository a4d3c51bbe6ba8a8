-- Names that are one letter off, in any case: a letter too many, one too few, one that is another, or two that are exchanged.
use Rattle.std.specs.Prelude.{ℕ, Bool, true, false, ◌==◌, ◌&&◌, ◌||◌, List, [], ◌∷◌, if◌then◌else◌}
use Rattle.std.specs.Char.{to_ascii_lowercase}
use Rattle.c62_token.specs.Number.{spells}

abbrev pub same_letter : ℕ → ℕ → Bool
same_letter a b = to_ascii_lowercase a == to_ascii_lowercase b

-- the first two letters of one are those of the other exchanged, and the rest is the same
abbrev pub is_exchanged : List ℕ → List ℕ → Bool
is_exchanged (a ∷ b ∷ rest) (c ∷ d ∷ others) = same_letter a d && same_letter b c && spells rest others
is_exchanged _ _ = false

-- where the first letters differ: that letter is another, or one has it and the other not, or two are exchanged
abbrev pub off_here : List ℕ → List ℕ → Bool
off_here (a ∷ rest) (b ∷ others) =
    spells rest others || spells rest (b ∷ others) || spells (a ∷ rest) others || is_exchanged (a ∷ rest) (b ∷ others)
off_here (a ∷ []) [] = true
off_here [] (b ∷ []) = true
off_here _ _ = false

unfoldable pub is_near : List ℕ → List ℕ → Bool
is_near (a ∷ rest) (b ∷ others) = if same_letter a b then is_near rest others else off_here (a ∷ rest) (b ∷ others)
is_near name word = off_here name word
