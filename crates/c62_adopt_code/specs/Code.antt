-- The lines of a text that are its code (docs/ADOPT.md, "Sections" and "Alignment").
use Rattle.std.specs.Prelude.{ℕ, ◌+◌, Bool, true, false, not, ◌&&◌, if◌then◌else◌, List, [], ◌∷◌, ◌++◌, length, nat_lt, take, codes, Result, Ok, Err}
use Rattle.std.specs.List.{flat_map}
use Rattle.std.specs.Str.{bytes_eq}
use Rattle.c62_read.specs.Text.{lines_of}
use Rattle.c62_adopt_line.specs.declared.fault.LineFault.{LineFault}
use Rattle.c62_adopt_line.specs.Line.{Line, line_says}
use Rattle.c62_adopt_code.specs.declared.fault.CodeCause.{CodeCause}
use Rattle.c62_adopt_code.specs.declared.fault.CodeCause.TheVariants.{Directive, OtherSection, Padding}
use Rattle.c62_adopt_cut.specs.Text.{most_bytes}
use Rattle.c62_adopt_spell.specs.Text.{spelled_text}
use Rattle.c62_adopt_code.specs.declared.way.Way.{Way}
use Rattle.c62_adopt_code.specs.Statement.{is_readable}
use Rattle.c62_adopt_code.specs.Role.{Role, Remark, Silent, Acts, Begins, Pads, Tells, Unknown, Refused, role_of}
use Rattle.c62_adopt_code.specs.Way.{comes_nothing, first_way, way_on}
use Rattle.c62_op.specs.declared.set.InstructionSet.{InstructionSet}

-- where a text begins
abbrev pub text_section : List ℕ
text_section = codes ".text"

-- the section below a line
abbrev pub section_behind : Role → List ℕ → List ℕ
section_behind (Begins labelled name) section = name
section_behind _ section = section

-- the section of the first instruction
abbrev pub home_or : Role → List ℕ → List ℕ → List ℕ
home_or Acts section later = section
home_or _ section later = later

abbrev pub home_of : List ℕ → List (List ℕ) → List ℕ
home_of section [] = text_section
home_of section (line ∷ lines) = home_or (role_of line) section (home_of (section_behind (role_of line) section) lines)

-- ---- a line

-- Whether a line for this is of the code, which may be here, or why the text is refused. Lines of other sections say nothing, and no instruction may be
-- among them.
abbrev pub taken : Bool → List ℕ → Way → Role → Result Bool CodeCause
taken here section way Remark = Ok false
taken here section way Silent = Ok here
taken here section way Acts = if here then Ok true else Err OtherSection
taken here section way (Begins labelled name) =
    if not labelled then Ok false else (if bytes_eq name section then Ok here else Err Directive)
taken here section way Pads = if here && not (comes_nothing way) then Err Padding else Ok here
taken here section way Tells = Ok here
taken here section way Unknown = if here then Ok true else Err Directive
taken here section way Refused = Err Directive

-- a line that can't be read is left to the reader of lines
abbrev pub line_taken : Bool → List ℕ → List ℕ → Way → Result Bool CodeCause
line_taken here line section way = if here && not (is_readable line) then Ok true else taken here section way (role_of line)

-- the line as it is, or an empty one
abbrev pub code_line : Bool → List ℕ → List ℕ
code_line true line = line
code_line false line = []

-- the way below what was read of a line, if it says something
abbrev pub way_behind : Result Line LineFault → Way → Way
way_behind (Ok line) way = way_on line way
way_behind (Err fault) way = way

-- ---- a text

-- the number of a line, and its fault
abbrev pub Refusal : Type 0
Refusal = ℕ × CodeCause

abbrev pub and_taken : ℕ → Result Bool CodeCause → (Bool → Result (List (List ℕ)) Refusal) → Result (List (List ℕ)) Refusal
and_taken number (Ok is) next = next is
and_taken number (Err cause) next = Err (number, cause)

abbrev pub with_first : List ℕ → Result (List (List ℕ)) Refusal → Result (List (List ℕ)) Refusal
with_first line (Ok lines) = Ok (line ∷ lines)
with_first line (Err refusal) = Err refusal

-- these lines in the same number, of which the first has this one, with those that aren't of the code empty
unfoldable pub code_below : InstructionSet → List ℕ → List ℕ → Way → ℕ → List (List ℕ) → Result (List (List ℕ)) Refusal
code_below isa home section way number [] = Ok []
code_below isa home section way number (line ∷ lines) =
    and_taken number (line_taken (bytes_eq home section) line section way)
    (λ is. with_first (code_line is line)
    (code_below isa home (section_behind (role_of line) section) (way_behind (line_says isa (code_line is line)) way) (number + 1) lines))

abbrev pub lines_coded : InstructionSet → List (List ℕ) → Result (List (List ℕ)) Refusal
lines_coded isa lines = code_below isa (home_of text_section lines) text_section first_way 1 lines

-- lines, each with a line feed behind it
abbrev pub text_of : List (List ℕ) → List ℕ
text_of lines = flat_map (λ line. line ++ codes "\n") lines

-- these lines below that text
abbrev pub below : List ℕ → Result (List (List ℕ)) Refusal → Result (List ℕ) Refusal
below front (Ok lines) = Ok (front ++ text_of lines)
below front (Err refusal) = Err refusal

-- a last line feed that the text doesn't have may be one byte too many
abbrev pub shortened : Result (List ℕ) Refusal → Result (List ℕ) Refusal
shortened (Ok code) = Ok (take most_bytes code)
shortened (Err refusal) = Err refusal

-- the code of a text whose lines are spelled as the reader of lines has it, line by line
unfoldable pub plain_code : InstructionSet → List ℕ → Result (List ℕ) Refusal
plain_code isa text = shortened (below [] (lines_coded isa (lines_of text)))

-- a text that is too long so is its own code, and isn't looked at
abbrev pub code_if_short : InstructionSet → List ℕ → Result (List ℕ) Refusal
code_if_short isa text = if nat_lt (most_bytes + 1) (length text) then Ok (take (most_bytes + 1) text) else plain_code isa text

-- the code of a text
unfoldable pub code_of : InstructionSet → List ℕ → Result (List ℕ) Refusal
code_of isa text = code_if_short isa (spelled_text isa text)
