-- How a text and a listing that are two files become one stream (docs/CHECK.md, "Input").
use Rattle.std.specs.Prelude.{◌≡◌, ℕ, ◌-◌, ◌==◌, List, [], ◌∷◌, ◌++◌, codes, length, slice_get, Option, Some, None, if◌then◌else◌}
use Rattle.c62_answer.specs.Parting.{HasNoParting, IsParted}

-- what ends a line that ends in this byte, where nothing does
abbrev pub end_behind : Option ℕ → List ℕ
end_behind None = []
end_behind (Some byte) = if byte == 10 then [] else (if byte == 13 then 13 ∷ 10 ∷ [] else 10 ∷ [])

-- the same of the last line of a text
abbrev pub line_end : List ℕ → List ℕ
line_end text = end_behind (slice_get text (length text - 1))

-- The stream is the whole text, a line `---` and the listing. Of a text that has a line `---` itself it has what stands before that,
-- and a line `-- `.
pub data IsJoined (text listing input : List ℕ) : Type 0 where
  Whole : HasNoParting text → input ≡ text ++ line_end text ++ codes "---\n" ++ listing → IsJoined text listing input
  Cut : (front behind : List ℕ) → IsParted text front behind → input ≡ front ++ codes "-- \n---\n" ++ listing → IsJoined text listing input
