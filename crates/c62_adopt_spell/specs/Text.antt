-- A text whose lines stand for those of another one (docs/ADOPT.md, "Other spellings").
use Rattle.std.specs.Prelude.{ℕ, List, [], ◌∷◌, ◌++◌, codes}
use Rattle.std.specs.List.{flat_map}
use Rattle.c62_read.specs.Text.{lines_of}
use Rattle.c62_adopt_spell.specs.declared.names.Setting.{Setting}
use Rattle.c62_adopt_spell.specs.Line.{counts_below, names_below, spelled}
use Rattle.c62_adopt_spell.specs.Local.{mark_of, none_above}
use Rattle.c62_op.specs.declared.set.InstructionSet.{InstructionSet}

-- lines, each with a line feed behind it
abbrev pub text_of : List (List ℕ) → List ℕ
text_of lines = flat_map (λ line. line ++ codes "\n") lines

-- lines below these settings and local labels
abbrev pub spelled_lines : InstructionSet → List ℕ → List Setting → List ℕ → List (List ℕ) → List (List ℕ)
spelled_lines isa mark names counts [] = []
spelled_lines isa mark names counts (line ∷ lines) =
    spelled isa names mark (counts_below isa counts line) line
    ∷ spelled_lines isa mark (names_below isa names mark (counts_below isa counts line) line) (counts_below isa counts line) lines

unfoldable pub spelled_text : InstructionSet → List ℕ → List ℕ
spelled_text isa text = text_of (spelled_lines isa (mark_of text) [] none_above (lines_of text))
