-- What the lines of a listing say (docs/LISTING.md, "Packets", "Cycles without instructions" and "Blocks").
use Rattle.std.specs.Prelude.{ℕ, ◌+◌, ◌-◌, min, Bool, true, false, if◌then◌else◌, List, [], ◌∷◌, ◌++◌, map, Option, Some, None, codes, decimal}
use Rattle.std.specs.Option.{option_to_list}
use Rattle.std.specs.Str.{bytes_eq}
use Rattle.c62_op.specs.declared.register.Unit.{Unit as FunctionalUnit}
use Rattle.c62_insn.specs.declared.insn.Insn.{Insn}
use Rattle.c62_insn.specs.Insn.{unit_of, aimed_operands}
use Rattle.c62_op.specs.Table.{mnemonic_of}
use Rattle.c62_insn.specs.Spelling.{condition_spelling, unit_spelling, operands_spelling}
use Rattle.c62_line.specs.Line.{Parts, parts_of, Says, Nothing, Pause, Does, Jumps}
use Rattle.c62_line.specs.Line.{label_field}
use Rattle.c62_read.specs.Program.{Name}
use Rattle.c62_packet.specs.declared.placed.Placed.{Placed}
use Rattle.c62_listing_reader.specs.declared.line.Front.{Front}
use Rattle.c62_listing_reader.specs.declared.line.Front.TheVariants.{Empty, Beside}
use Rattle.c62_listing_reader.specs.declared.line.Above.{Above}
use Rattle.c62_listing_reader.specs.declared.line.Above.TheVariants.{Start, Heading, Pause as PauseAbove, Issue}
use Rattle.c62_listing_reader.specs.Text.{is_empty}
use Rattle.c62_listing_reader.specs.Begin.{is_gap, is_beside}

-- ---- what a line says

pub record Said : Type 0 where
  pub front : Front
  pub label : Option Name
  pub says : Says

-- an instruction where it is placed, by its parts, with the number of its line
pub record Part : Type 0 where
  pub parts : Parts
  pub line : ℕ
  pub cycle : ℕ

abbrev pub part_of : Placed → Part
part_of p = record { parts = parts_of p.insn; line = p.line; cycle = p.cycle }

-- a block as it is read: its label, the cycles that are written, and its instructions
pub record Draft : Type 0 where
  pub label : Option Name
  pub cycles : ℕ
  pub placed : List Part

-- the blocks that are over, and the one that the next line goes on with
pub record Drafts : Type 0 where
  pub done : List Draft
  pub current : Option Draft

abbrev pub no_drafts : Drafts
no_drafts = record { done = []; current = None }

abbrev pub all_drafts : Drafts → List Draft
all_drafts drafts = drafts.done ++ option_to_list drafts.current

-- no block is open then
abbrev pub ended : Drafts → Drafts
ended drafts = record { done = all_drafts drafts; current = None }

abbrev pub opened : Option Draft → Draft
opened None = record { label = None; cycles = 0; placed = [] }
opened (Some draft) = draft

-- a block is open then
abbrev pub begun : Drafts → Drafts
begun drafts = record drafts { current = Some (opened drafts.current) }

-- an instruction beside another stands in the last cycle written, and each other in the next one
abbrev pub with_part : Bool → Parts → ℕ → Draft → Draft
with_part true parts line draft =
    record { label = draft.label; cycles = draft.cycles; placed = draft.placed ++ record { parts = parts; line = line; cycle = draft.cycles - 1 } ∷ [] }
with_part false parts line draft =
    record { label = draft.label; cycles = draft.cycles + 1; placed = draft.placed ++ record { parts = parts; line = line; cycle = draft.cycles } ∷ [] }

abbrev pub with_pause : ℕ → Draft → Draft
with_pause n draft = record { label = draft.label; cycles = draft.cycles + n; placed = draft.placed }

abbrev pub with_label : Option Name → Draft → Draft
with_label None draft = draft
with_label (Some label) draft = record { label = Some label; cycles = draft.cycles; placed = draft.placed }

-- a branch to a block goes to the one of this number
abbrev pub aimed_parts : ℕ → Parts → Parts
aimed_parts number parts = record { op = parts.op; operands = aimed_operands number parts.operands; cond = parts.cond; unit = parts.unit }

-- a jump to a label is a branch to the block that its label stands for
abbrev pub jump_to : (Name → ℕ) → Parts → Name → Parts
jump_to aim parts target = aimed_parts (aim target) parts

abbrev pub with_says : (Name → ℕ) → Bool → ℕ → Says → Draft → Draft
with_says aim beside line Nothing draft = draft
with_says aim beside line (Pause n) draft = with_pause n draft
with_says aim beside line (Does parts) draft = with_part beside parts line draft
with_says aim beside line (Jumps parts target) draft = with_part beside (jump_to aim parts target) line draft

-- the block with what a line of it says
abbrev pub with_line : (Name → ℕ) → ℕ → Said → Draft → Draft
with_line aim line said draft = with_says aim (is_beside said.front) line said.says (with_label said.label draft)

-- the blocks with what the line of this number says; an empty line ends a block
abbrev pub with_said : (Name → ℕ) → ℕ → Said → Drafts → Drafts
with_said aim line said drafts =
    if is_gap said.front then ended drafts
    else record { done = drafts.done; current = Some (with_line aim line said (opened drafts.current)) }

abbrev pub above_of : Says → Above
above_of Nothing = Heading
above_of (Pause n) = PauseAbove n
above_of (Does parts) = Issue parts.unit
above_of (Jumps parts target) = Issue parts.unit

-- what the next line asks of this one
abbrev pub above_next : Front → Says → Above
above_next front says = if is_gap front then Start else above_of says

-- ---- labels

-- the labels in the label fields of lines, each with the number of the block that it stands for: as many empty lines are above
-- it, this number standing for the first line
abbrev pub named : Option Name → ℕ → List (Name × ℕ)
named None number = []
named (Some label) number = (label, number) ∷ []

abbrev pub number_after : List ℕ → ℕ → ℕ
number_after line number = if is_empty line then number + 1 else number

abbrev pub names_in : ℕ → List (List ℕ) → List (Name × ℕ)
names_in number [] = []
names_in number (line ∷ lines) = named (label_field line) number ++ names_in (number_after line number) lines

abbrev pub labels_of : List (Name × ℕ) → List Name
labels_of names = map (λ entry. entry.0) names

abbrev pub number_of : List (Name × ℕ) → Name → ℕ
number_of [] label = 0
number_of (entry ∷ names) label = if bytes_eq entry.0 label then entry.1 else number_of names label

-- the block that a branch to this label goes to; no text has more
abbrev pub aim_by : List (Name × ℕ) → Name → ℕ
aim_by names label = min 255 (number_of names label)

-- ---- how a line is spelled

abbrev pub parts_spelling : (ℕ → List ℕ) → Parts → FunctionalUnit → List ℕ
parts_spelling name parts unit =
    condition_spelling parts.cond ++ mnemonic_of parts.op ++ codes " " ++ unit_spelling parts.operands unit ++ codes " "
    ++ operands_spelling name parts.op unit.letter parts.operands

abbrev pub front_spelling : Front → List ℕ
front_spelling Beside = codes "|| "
front_spelling _ = codes "   "

-- an instruction's line, in which a branch goes to this label
abbrev pub issue_line : Front → Name → Parts → Option FunctionalUnit → Option (List ℕ)
issue_line front target parts None = None
issue_line front target parts (Some unit) = Some (front_spelling front ++ parts_spelling (λ _. target) parts unit)

-- the same of an instruction that is read
abbrev pub insn_line : Front → Name → Insn → Option (List ℕ)
insn_line front target insn = issue_line front target (parts_of insn) (unit_of insn)

abbrev pub empty_line : Front → Option (List ℕ)
empty_line Empty = Some []
empty_line _ = None

-- the one spelling of a line that says this, if there is one
abbrev pub spelled_line : Front → Option Name → Says → Option (List ℕ)
spelled_line front (Some label) Nothing = Some (label ++ codes ":")
spelled_line front (Some label) says = None
spelled_line front None Nothing = empty_line front
spelled_line front None (Pause n) = Some (codes "   NOP " ++ decimal n)
spelled_line front None (Does parts) = issue_line front [] parts parts.unit
spelled_line front None (Jumps parts target) = issue_line front target parts parts.unit

abbrev pub is_text : List ℕ → Option (List ℕ) → Bool
is_text bytes None = false
is_text bytes (Some spelled) = bytes_eq bytes spelled
