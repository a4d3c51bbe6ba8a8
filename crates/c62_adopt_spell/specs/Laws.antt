-- What says something stays as it is, and local labels have names of their own (docs/ADOPT.md, "Other spellings", "Local labels").
use Rattle.std.specs.Prelude.{◌≡◌, ℕ, ◌<◌, ◌^◌, Bool, true, false, ◌||◌, List, [], ◌∷◌, ◌++◌}
use Rattle.std.specs.List.{list_all}
use Rattle.c62_adopt_line.specs.Line.{line_says}
use Rattle.c62_token.specs.Kind.{Word}
use Rattle.c62_token.specs.Number.{is_label}
use Rattle.c62_adopt_spell.specs.Line.{speaks}
use Rattle.c62_adopt_spell.specs.Local.{local_name}
use Rattle.c62_adopt_spell.specs.Text.{spelled_lines}
use Rattle.c62_op.specs.declared.set.InstructionSet.{InstructionSet}

abbrev pub is_empty : List ℕ → Bool
is_empty [] = true
is_empty line = false

-- a line that has a label, an instruction or cycles, or has no bytes
abbrev pub stays : InstructionSet → List ℕ → Bool
stays isa line = is_empty line || speaks (line_says isa line)

abbrev pub StayAsTheyAre : InstructionSet → List (List ℕ) → Type 0
StayAsTheyAre isa lines =
    (mark counts : List ℕ) → list_all (stays isa) lines ≡ true → spelled_lines isa mark [] counts lines ≡ lines

-- a name that may be a label stands nowhere in the text
abbrev pub StandsNowhere : List ℕ → Word → Type 0
StandsNowhere text name = (front behind : List ℕ) → is_label name ≡ true → text ≡ front ++ (name ++ behind) → ⊥

-- no two local labels of a text have the same name
abbrev pub AreApart : List ℕ → Type 0
AreApart mark =
    (n m count other : ℕ) → n < 2 ^ 64 → m < 2 ^ 64 → count < 2 ^ 64 → other < 2 ^ 64
    → local_name mark n count ≡ local_name mark m other → (n ≡ m) × (count ≡ other)
