-- How a serial text and a listing stand on one stream (docs/CHECK.md, "Input").
use Rattle.std.specs.Prelude.{◌≡◌, ◌⊎◌, ℕ, ◌≤◌, List, [], ◌∷◌, ◌++◌, length, codes}

-- whole lines: no bytes, or bytes of which the last is a line feed
abbrev pub AreLines : List ℕ → Type 0
AreLines text = (text ≡ []) ⊎ ((front : List ℕ) × (text ≡ front ++ 10 ∷ []))

-- A line ends with a line feed, in front of which a carriage return may stand, or with the input.
abbrev pub IsEnded : List ℕ → List ℕ → Type 0
IsEnded bytes rest = (bytes ≡ 10 ∷ rest) ⊎ ((bytes ≡ 13 ∷ 10 ∷ rest) ⊎ ((bytes ≡ []) × (rest ≡ [])))

-- the first line is `---`, and this stands behind it
pub record IsBegun (bytes rest : List ℕ) : Type 0 where
  pub end : List ℕ
  pub ended : IsEnded end rest
  pub whole : bytes ≡ codes "---" ++ end

-- whole lines, a line `---`, and what stands behind it
pub record IsCut (input text listing : List ℕ) : Type 0 where
  pub lines : AreLines text
  pub behind : List ℕ
  pub begun : IsBegun behind listing
  pub whole : input ≡ text ++ behind

-- the input is cut at its first line `---`
pub record IsParted (input text listing : List ℕ) : Type 0 where
  pub cut : IsCut input text listing
  pub first : (other rest : List ℕ) → IsCut input other rest → length text ≤ length other

-- it is so in one way
abbrev pub IsPartedOnce : List ℕ → Type 0
IsPartedOnce input = (text listing other rest : List ℕ) → IsParted input text listing → IsParted input other rest → (text ≡ other) × (listing ≡ rest)

-- no line of the input is `---`
abbrev pub HasNoParting : List ℕ → Type 0
HasNoParting input = (text listing : List ℕ) → IsCut input text listing → ⊥

-- these bytes begin with no end of a line
abbrev pub NoEnd : List ℕ → Type 0
NoEnd bytes = (rest : List ℕ) → IsEnded bytes rest → ⊥

-- the first line isn't `---`
abbrev pub NoneBegun : List ℕ → Type 0
NoneBegun bytes = (rest : List ℕ) → IsBegun bytes rest → ⊥
