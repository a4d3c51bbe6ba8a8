-- The parts of a text, which begin at its labels (docs/ADOPT.md, "Parts of a text").
use Rattle.std.specs.Prelude.{ℕ, Bool, false, not, List, [], ◌∷◌, ◌++◌, Option, Some, None, is_some, Result, Ok, Err, if◌then◌else◌}
use Rattle.std.specs.Option.{option_to_list}
use Rattle.c62_line.specs.Line.{Says, Jumps}
use Rattle.c62_read.specs.Program.{Name}
use Rattle.c62_adopt_line.specs.declared.fault.LineFault.{LineFault}
use Rattle.c62_adopt_code.specs.declared.way.Way.{Way}
use Rattle.c62_adopt_code.specs.Statement.{front_of, label_of}
use Rattle.c62_adopt_code.specs.Way.{comes_nothing, labelled_way, way_on}
use Rattle.c62_rows.specs.Word.{Said, row_says}
use Rattle.c62_reach.specs.File.{files_below}
use Rattle.c62_op.specs.declared.set.InstructionSet.{InstructionSet}

-- the label with which it begins, how many files begin above that, the labels that its instructions name, and whether what runs in it may run
-- on into the part below
pub record Part : Type 0 where
  pub label : Option Name
  pub file : ℕ
  pub names : List Name
  pub runs_on : Bool

-- a part so far: its label and file, the labels that are named in it, and the way from its label on
pub record Growing : Type 0 where
  pub label : Option Name
  pub file : ℕ
  pub names : List Name
  pub way : Way

abbrev pub new_part : ℕ → Option Name → Growing
new_part file label = record { label = label; file = file; names = []; way = labelled_way }

-- ---- a line

-- a line names the label that it branches to, and the one whose word it takes
abbrev pub target_in : Says → Option Name
target_in (Jumps parts label) = Some label
target_in says = None

abbrev pub with_said : Said → Growing → Growing
with_said said last = record {
  label = last.label;
  file = last.file;
  names = (last.names ++ option_to_list (target_in said.line.says)) ++ option_to_list said.word;
  way = way_on said.line last.way;
}

-- what can't be read names nothing and takes no cycle
abbrev pub with_read : Result Said LineFault → Growing → Growing
with_read (Ok said) last = with_said said last
with_read (Err fault) last = last

abbrev pub with_line : InstructionSet → List ℕ → Growing → Growing
with_line isa line last = with_read (row_says isa line) last

-- the label of a line, be it one that can't be read
abbrev pub label_at : List ℕ → Option Name
label_at line = label_of (front_of line)

-- ---- the parts

-- it runs on, but where the line below stands six cycles or more behind a branch without a condition
abbrev pub closed : Growing → Part
closed last = record { label = last.label; file = last.file; names = last.names; runs_on = not (comes_nothing last.way) }

-- a part ends above the next line with a label, above which so many files begin
unfoldable pub parts_below : InstructionSet → ℕ → Growing → List (List ℕ) → List Part
parts_below isa files last [] = closed last ∷ []
parts_below isa files last (line ∷ lines) =
    if is_some (label_at line) then closed last ∷ parts_below isa (files_below files line) (with_line isa line (new_part files (label_at line))) lines
    else parts_below isa (files_below files line) (with_line isa line last) lines

-- the parts of lines in the spelling that the reader of lines has; the first one stands above all labels
abbrev pub parts_of : InstructionSet → List (List ℕ) → List Part
parts_of isa lines = parts_below isa 0 (new_part 0 None) lines
