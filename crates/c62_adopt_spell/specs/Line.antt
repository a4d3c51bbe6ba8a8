-- The line that stands for another one (docs/ADOPT.md, "Other spellings").
use Rattle.std.specs.Prelude.{◌≡◌, ℕ, Bool, true, false, not, ◌==◌, ◌&&◌, ◌||◌, nat_le, List, [], ◌∷◌, ◌++◌, length, drop, codes, Option, Some, None, is_some, Result, Ok, Err, if◌then◌else◌}
use Rattle.std.specs.List.{list_all}
use Rattle.std.specs.Option.{option_to_list}
use Rattle.c62_line.specs.declared.limits.TheConstants.{MOST_LINE}
use Rattle.c62_line.specs.Line.{Says, Nothing, label_field}
use Rattle.c62_token.specs.Kind.{Word}
use Rattle.c62_token.specs.Number.{is_label}
use Rattle.c62_token.specs.Token.{begins, is_allowed, is_word_byte, tokens}
use Rattle.c62_adopt_line.specs.declared.fault.LineFault.{LineFault}
use Rattle.c62_adopt_line.specs.Line.{Line, behind_bars, behind_colon, line_says}
use Rattle.c62_adopt_line.specs.Plain.{undotted}
use Rattle.c62_adopt_spell.specs.declared.comment.Place.TheVariants.{Code}
use Rattle.c62_adopt_spell.specs.declared.names.Setting.{Setting}
use Rattle.c62_adopt_spell.specs.Comment.{blanked, is_remark, uncommented}
use Rattle.c62_adopt_spell.specs.Local.{counted, local_of, named_locals}
use Rattle.c62_adopt_spell.specs.Names.{setting_of}
use Rattle.c62_adopt_spell.specs.Operation.{is_instruction}
use Rattle.c62_adopt_spell.specs.Statement.{has_pair, stated}
use Rattle.c62_op.specs.declared.set.InstructionSet.{InstructionSet}

-- ---- a label without a colon

-- the word that stands in the first column, where it is a label and no instruction
abbrev pub column_label : InstructionSet → List ℕ → List Word → Option Word
column_label isa line [] = None
column_label isa line (word ∷ words) =
    if begins is_word_byte line && is_label word && not (is_instruction isa word) then Some word else None

-- ---- a line

abbrev pub labelled : List Setting → List ℕ → Option Word → List ℕ
labelled names line (Some word) = word ++ codes ":" ++ stated names (drop (length word) line)
labelled names line None = stated names line

abbrev pub with_label : InstructionSet → List Setting → List ℕ → Option Word → List ℕ
with_label isa names line (Some label) = label ++ codes ":" ++ stated names (behind_colon line)
with_label isa names line None = labelled names line (column_label isa line (tokens line))

abbrev pub with_bars : InstructionSet → List Setting → List ℕ → Option (List ℕ) → List ℕ
with_bars isa names line (Some rest) = codes "||" ++ stated names rest
with_bars isa names line None = with_label isa names line (label_field (undotted true line))

-- the line in the spelling that the reader of lines has, below these settings
unfoldable pub respelled : InstructionSet → List Setting → List ℕ → List ℕ
respelled isa names line = with_bars isa names line (behind_bars line)

-- ---- when it stands for the line

abbrev pub is_readable : List ℕ → Bool
is_readable line = list_all is_allowed line && nat_le (length line) MOST_LINE

abbrev pub is_nothing : Says → Bool
is_nothing Nothing = true
is_nothing says = false

-- a line that has a label, or an instruction or cycles
abbrev pub speaks : Result Line LineFault → Bool
speaks (Err fault) = false
speaks (Ok line) = is_some line.label || not (is_nothing line.says)

abbrev pub reads : Result Line LineFault → Bool
reads (Err fault) = false
reads (Ok line) = true

-- what can't be read as it stands is read so where this can be, and a pair of registers is refused as operands are
abbrev pub if_better : InstructionSet → List ℕ → List ℕ → List ℕ
if_better isa line other =
    if not (reads (line_says isa line)) && (reads (line_says isa other) || has_pair (tokens line)) then other else line

-- ---- a line without comments

-- what it sets, where it can't be read as it stands
abbrev pub set_by : InstructionSet → List Setting → List ℕ → Option Setting
set_by isa names line = if reads (line_says isa line) then None else setting_of isa names (begins is_word_byte line) (tokens line)

-- what sets a name says nothing more
abbrev pub unless_set : Option Setting → List ℕ → List ℕ
unless_set (Some setting) line = []
unless_set None line = line

abbrev pub spelled_plain : InstructionSet → List Setting → List ℕ → List ℕ
spelled_plain isa names line = unless_set (set_by isa names line) (if_better isa line (respelled isa names line))

abbrev pub names_plain : InstructionSet → List Setting → List ℕ → List Setting
names_plain isa names line = names ++ option_to_list (set_by isa names line)

-- ---- a line

-- where so many local labels of each number stand above or in it: what can't be read as it stands has their names
unfoldable pub with_locals : InstructionSet → List ℕ → List ℕ → List ℕ → List ℕ
with_locals isa mark counts line = if reads (line_says isa line) then line else named_locals mark counts line

abbrev pub plain_or : InstructionSet → List Setting → List ℕ → List ℕ → List ℕ → Option (List ℕ) → List ℕ
plain_or isa names mark counts line (Some plain) = spelled_plain isa names (with_locals isa mark counts plain)
plain_or isa names mark counts line None = line

abbrev pub names_or : InstructionSet → List Setting → List ℕ → List ℕ → Option (List ℕ) → List Setting
names_or isa names mark counts (Some plain) = names_plain isa names (with_locals isa mark counts plain)
names_or isa names mark counts None = names

-- A carriage return that stands last would be of the line's end once a line feed stands behind it. So another byte stands for it that isn't allowed.
abbrev pub last_byte : ℕ → ℕ
last_byte b = if b == 13 then 127 else b

abbrev pub without_end : List ℕ → List ℕ
without_end [] = []
without_end (b ∷ []) = last_byte b ∷ []
without_end (b ∷ c ∷ line) = b ∷ without_end (c ∷ line)

-- a line that says something by itself stands as it is, and so do comments and a line whose comment doesn't end
unfoldable pub spelled : InstructionSet → List Setting → List ℕ → List ℕ → List ℕ → List ℕ
spelled isa names mark counts line =
    if not (is_readable line) then without_end line
    else (if is_remark line || speaks (line_says isa line) then line else plain_or isa names mark counts line (uncommented line))

-- the settings below a line
unfoldable pub names_below : InstructionSet → List Setting → List ℕ → List ℕ → List ℕ → List Setting
names_below isa names mark counts line =
    if not (is_readable line) then names
    else (if is_remark line || speaks (line_says isa line) then names else names_or isa names mark counts (uncommented line))

-- how many local labels of each number stand above or in a line; one that says something by itself has none
unfoldable pub counts_below : InstructionSet → List ℕ → List ℕ → List ℕ
counts_below isa counts line =
    if is_readable line && (is_remark line || speaks (line_says isa line)) then counts
    else counted counts (local_of (tokens (blanked Code line)))

-- the line stands for itself, and sets nothing
unfoldable pub IsItself : InstructionSet → List ℕ → Type 0
IsItself isa line =
    (names : List Setting) (mark counts : List ℕ)
    → (spelled isa names mark counts line ≡ line) × (names_below isa names mark counts line ≡ names)

-- it is what it is without its comments
unfoldable pub IsPlain : InstructionSet → List ℕ → Type 0
IsPlain isa line =
    (names : List Setting) (mark counts : List ℕ)
    → (spelled isa names mark counts line ≡ spelled_plain isa names (with_locals isa mark counts (blanked Code line)))
    × (names_below isa names mark counts line ≡ names_plain isa names (with_locals isa mark counts (blanked Code line)))
