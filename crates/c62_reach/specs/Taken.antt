-- What is taken of a text from a label on (docs/ADOPT.md, "Parts of a text").
use Rattle.std.specs.Prelude.{◌≡◌, ◌⊎◌, ℕ, ◌+◌, ◌≤◌, ◌<◌, Bool, true, false, ◌||◌, if◌then◌else◌, List, [], ◌∷◌, ◌++◌, length, take, drop, codes, slice_index_or, Option, Some, None, is_some}
use Rattle.c62_read.specs.Program.{Name}
use Rattle.c62_read.specs.Text.{lines_of}
use Rattle.c62_adopt_cut.specs.Text.{most_bytes}
use Rattle.c62_adopt_code.specs.Role.{Role, Begins, Unknown, Refused, role_of}
use Rattle.c62_adopt_spell.specs.Text.{spelled_text}
use Rattle.c62_rows.specs.Word.{undotted}
use Rattle.c62_token.specs.Number.{is_label}
use Rattle.c62_reach.specs.declared.fault.ReachFault.{ReachFault}
use Rattle.c62_reach.specs.declared.fault.ReachFault.TheVariants.{From, Memory}
use Rattle.c62_reach.specs.Ended.{ended_lines}
use Rattle.c62_reach.specs.Part.{Part, label_at, parts_of}
use Rattle.c62_reach.specs.Reach.{Marks, part_named}
use Rattle.c62_op.specs.declared.set.InstructionSet.{InstructionSet}

-- ---- a line

-- a directive that begins a section, isn't known or is never taken
abbrev pub is_of_all : Role → Bool
is_of_all (Begins labelled name) = true
is_of_all Unknown = true
is_of_all Refused = true
is_of_all role = false

-- Such directives stay in each part, as they may concern all lines below, and so do lines that set a name, which have no bytes in the spelling
-- that the reader of lines has.
abbrev pub stays : List ℕ → Bool
stays [] = true
stays (b ∷ line) = is_of_all (role_of (b ∷ line))

-- a line of a part that is taken, or of another one
abbrev pub line_taken : Bool → List ℕ → List ℕ → List ℕ
line_taken here spelled line = if here || stays spelled then line else codes "\n"

-- ---- a text

abbrev pub first_of : List (List ℕ) → List ℕ
first_of [] = []
first_of (line ∷ lines) = line

abbrev pub behind_first : List (List ℕ) → List (List ℕ)
behind_first [] = []
behind_first (line ∷ lines) = lines

-- whether the part of a line is taken, where that of the line above is or isn't, and the marks of the parts below are these
abbrev pub here_at : List ℕ → Bool → List Bool → Bool
here_at spelled here below = if is_some (label_at spelled) then slice_index_or below 0 false else here

abbrev pub below_at : List ℕ → List Bool → List Bool
below_at spelled below = if is_some (label_at spelled) then drop 1 below else below

-- what is taken of these lines, which are spelled so
unfoldable pub taken_below : Bool → List Bool → List (List ℕ) → List (List ℕ) → List ℕ
taken_below here below [] spelled = []
taken_below here below (line ∷ lines) spelled =
    line_taken (here_at (first_of spelled) here below) (first_of spelled) line
    ++ taken_below (here_at (first_of spelled) here below) (below_at (first_of spelled) below) lines (behind_first spelled)

abbrev pub text_taken : List Bool → List (List ℕ) → List (List ℕ) → List ℕ
text_taken marks lines spelled = taken_below (slice_index_or marks 0 false) (drop 1 marks) lines spelled

abbrev pub lines_spelled : InstructionSet → List ℕ → List (List ℕ)
lines_spelled isa text = lines_of (spelled_text isa text)

abbrev pub parts_in : InstructionSet → List ℕ → List Part
parts_in isa text = parts_of isa (lines_spelled isa text)

-- the number of the first part that begins with the label of this name, whose dots are read as `_`
abbrev pub first_part : Name → List Part → Option ℕ
first_part name parts = if is_label (undotted name) then part_named (undotted name) parts else None

-- the marks of the parts that are reached from there
pub record MarksFrom (name : Name) (parts : List Part) (marks : List Bool) : Type 0 where
  pub first : ℕ
  pub named : first_part name parts ≡ Some first
  pub reached : Marks parts first marks

-- a text that is too long isn't looked at
pub record IsTooLong (text other : List ℕ) : Type 0 where
  pub long : most_bytes < length text
  pub own : other ≡ take (most_bytes + 1) text

-- the lines of the parts that are reached from the one of this name
pub record IsTakenFrom (isa : InstructionSet) (name text other : List ℕ) : Type 0 where
  pub short : length text ≤ most_bytes
  pub marks : List Bool
  pub reached : MarksFrom name (parts_in isa text) marks
  pub taken : other ≡ text_taken marks (ended_lines text) (lines_spelled isa text)

-- what is taken of a text from the label of this name on
abbrev pub IsTaken : InstructionSet → List ℕ → List ℕ → List ℕ → Type 0
IsTaken isa name text other = IsTooLong text other ⊎ IsTakenFrom isa name text other

-- no line has the label; memory may run out before any answer
abbrev pub Lacks : InstructionSet → List ℕ → List ℕ → ReachFault → Type 0
Lacks isa name text From = (length text ≤ most_bytes) × (first_part name (parts_in isa text) ≡ None)
Lacks isa name text Memory = Unit {0}
