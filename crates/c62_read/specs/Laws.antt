-- Laws of texts: what changes no program, and how a program lies in its text.
use Rattle.std.specs.Prelude.{◌≡◌, ℕ, ◌+◌, ◌≤◌, nat_lt, Bool, true, false, ◌&&◌, ◌||◌, List, [], ◌∷◌, ◌++◌, length, map}
use Rattle.std.specs.Prelude.{position, unwrap_or, slice_get, Contains, Option, Some, None, is_some, Result, Ok}
use Rattle.std.specs.List.{IsDistinct, flat_map, list_all}
use Rattle.std.specs.Option.{option_to_list}
use Rattle.std.specs.Str.{bytes_eq}
use Rattle.std.specs.List.Sorted.{IsStrictlyIncreasing}
use Rattle.c62_op.specs.declared.operands.Operands.TheVariants.{Block}
use Rattle.c62_read.specs.Text.{lines_of}
use Rattle.c62_line.specs.Laws.{IsReadable, IsRecased, target_in}
use Rattle.c62_op.specs.Shape.{is_branch}
use Rattle.c62_op.specs.Units.{is_taken_in}
use Rattle.c62_line.specs.Line.{Parts, Says, Does, Jumps, line_of, label_field}
use Rattle.c62_line.specs.declared.fault.Cause.{Cause}
use Rattle.c62_read.specs.Block.{branch_last}
use Rattle.c62_read.specs.Program.{BlockParts, Item, Name, Numbered, Runs, items_from, label_is, label_items, labels_of, most_bytes, program_in}
use Rattle.c62_op.specs.declared.set.InstructionSet.{InstructionSet}

-- ---- what says nothing

-- the other line is this one without its comment, behind a `;` or all of it
pub data IsUncommented (line other : List ℕ) : Type 0 where
  Same : line ≡ other → IsUncommented line other
  Behind : (rest : List ℕ) → line ≡ other ++ 59 ∷ rest → IsReadable line → IsUncommented line other
  Whole : (rest : List ℕ) → line ≡ 42 ∷ rest → other ≡ [] → IsReadable line → IsUncommented line other

abbrev pub AreUncommented : List (List ℕ) → List (List ℕ) → Type 0
AreUncommented [] [] = Unit {0}
AreUncommented (line ∷ lines) (other ∷ others) = IsUncommented line other × AreUncommented lines others
AreUncommented _ _ = ⊥

-- a text says what it says without comments
abbrev pub CommentsSayNothing : InstructionSet → List ℕ → List ℕ → Type 0
CommentsSayNothing isa text other =
    length text ≤ most_bytes → length other ≤ most_bytes → AreUncommented (lines_of text) (lines_of other) → program_in isa text ≡ program_in isa other

-- ---- case

-- the same but for the case of letters that are no label's
abbrev pub AreRecased : InstructionSet → List (List ℕ) → List (List ℕ) → Type 0
AreRecased isa [] [] = Unit {0}
AreRecased isa (line ∷ lines) (other ∷ others) =
    (IsRecased 32 line other × (label_field line ≡ label_field other)
    × (target_in (line_of isa line) ≡ target_in (line_of isa other))) × AreRecased isa lines others
AreRecased isa _ _ = ⊥

-- a text says what it says in any case of its letters, where labels keep theirs
abbrev pub CaseChangesNothing : InstructionSet → List ℕ → List ℕ → Type 0
CaseChangesNothing isa text other =
    length text ≤ most_bytes → length other ≤ most_bytes → AreRecased isa (lines_of text) (lines_of other) → program_in isa text ≡ program_in isa other

-- ---- a program is its lines

-- the number of the block with this label
abbrev pub block_named : List BlockParts → Name → ℕ
block_named blocks label = unwrap_or (position (λ block. label_is label block.label) blocks) 0

-- the instruction of a line, if it says one; a jump is a branch to the block that its label names
abbrev pub instruction_at : (Name → ℕ) → ℕ → Result (Option Name × Says) Cause → List Numbered
instruction_at aim number (Ok (label, Does parts)) = record { parts = parts; line = number } ∷ []
instruction_at aim number (Ok (label, Jumps parts target)) = record { parts = record parts { operands = Block (aim target) }; line = number } ∷ []
instruction_at aim number _ = []

-- the instructions of these lines in their order, the first line having this number
abbrev pub instructions_in : InstructionSet → (Name → ℕ) → ℕ → List (List ℕ) → List Numbered
instructions_in isa aim number [] = []
instructions_in isa aim number (line ∷ lines) = instruction_at aim number (line_of isa line) ++ instructions_in isa aim (number + 1) lines

-- the instructions of blocks, one after the other
abbrev pub instructions_of : List BlockParts → List Numbered
instructions_of blocks = flat_map (λ block. block.insns) blocks

-- the instructions of a text's program are those of its lines
abbrev pub IsItsLines : InstructionSet → List ℕ → Type 0
IsItsLines isa text =
    (blocks : List BlockParts) → program_in isa text ≡ Ok blocks → instructions_of blocks ≡ instructions_in isa (block_named blocks) 1 (lines_of text)

-- each instruction of a program is one of the set that its text is read in
abbrev pub is_of : InstructionSet → Numbered → Bool
is_of isa entry = is_taken_in isa entry.parts.op entry.parts.operands

abbrev pub StaysInSet : InstructionSet → List ℕ → Type 0
StaysInSet isa text = (blocks : List BlockParts) → program_in isa text ≡ Ok blocks → list_all (is_of isa) (instructions_of blocks) ≡ true

-- each label that a line of a program jumps to is a block's
abbrev pub HasTargets : InstructionSet → List ℕ → Type 0
HasTargets isa text =
    (blocks : List BlockParts) (line : List ℕ) (label : Option Name) (parts : Parts) (target : Name) → program_in isa text ≡ Ok blocks
    → Contains (lines_of text) line → line_of isa line ≡ Ok (label, Jumps parts target)
    → (number : ℕ) × (position (λ block. label_is target block.label) blocks ≡ Some number)

-- the lines of a program's instructions rise
abbrev pub HasRisingLines : InstructionSet → List ℕ → Type 0
HasRisingLines isa text =
    (blocks : List BlockParts) → program_in isa text ≡ Ok blocks → IsStrictlyIncreasing (map (λ entry. entry.line) (instructions_of blocks))

-- each instruction of a program is what the text's line of its number says
abbrev pub ReadsAsItsLine : InstructionSet → List ℕ → Type 0
ReadsAsItsLine isa text =
    (blocks : List BlockParts) (entry : Numbered) → program_in isa text ≡ Ok blocks → Contains (instructions_of blocks) entry
    → (index : ℕ) × (line : List ℕ) × (entry.line ≡ index + 1) × (slice_get (lines_of text) index ≡ Some line)
    × (instruction_at (block_named blocks) entry.line (line_of isa line) ≡ entry ∷ [])

-- ---- blocks are cut by labels and branches

-- a branch to a label with the number of its block
abbrev pub settled : (Name → ℕ) → Item → Item
settled aim (Runs entry (Some target)) =
    Runs (record { parts = record entry.parts { operands = Block (aim target) }; line = entry.line }) None
settled aim item = item

-- a block's label and instructions
abbrev pub items_of : BlockParts → List Item
items_of block = label_items block.label ++ map (λ entry. Runs entry None) block.insns

abbrev pub ends_in_branch : List Numbered → Bool
ends_in_branch [] = false
ends_in_branch (entry ∷ []) = is_branch entry.parts.op
ends_in_branch (entry ∷ next ∷ entries) = ends_in_branch (next ∷ entries)

-- a block begins with a label, or with an instruction behind a branch
abbrev pub may_begin : Bool → Option Name → List Numbered → Bool
may_begin behind_branch label insns = is_some label || behind_branch && nat_lt 0 (length insns)

-- Each block begins so, the start of a text standing for a branch before it.
abbrev pub begin_well : Bool → List BlockParts → Bool
begin_well behind_branch [] = true
begin_well behind_branch (block ∷ blocks) = may_begin behind_branch block.label block.insns && begin_well (ends_in_branch block.insns) blocks

-- The blocks of a text are its labels and instructions in their order, cut before each label and behind each branch, and
-- nowhere else: a label stands at the front of a block, a branch at its end.
pub record IsCut (isa : InstructionSet) (text : List ℕ) (blocks : List BlockParts) : Type 0 where
  pub items : flat_map items_of blocks ≡ map (settled (block_named blocks)) (items_from isa 1 (lines_of text))
  pub begins : begin_well true blocks ≡ true
  pub ends : list_all (λ block. branch_last (map (λ entry. entry.parts.op) block.insns)) blocks ≡ true

abbrev pub HasCutBlocks : InstructionSet → List ℕ → Type 0
HasCutBlocks isa text = (blocks : List BlockParts) → program_in isa text ≡ Ok blocks → IsCut isa text blocks

-- ---- labels

-- The labels of a program's blocks are those of its lines, in their order, and no two are the same.
abbrev pub HasItsLabels : InstructionSet → List ℕ → Type 0
HasItsLabels isa text =
    (blocks : List BlockParts) → program_in isa text ≡ Ok blocks
    → (flat_map (λ block. option_to_list block.label) blocks ≡ labels_of (lines_of text)) × IsDistinct bytes_eq (labels_of (lines_of text))

-- ---- what is rewritten keeps its effect
