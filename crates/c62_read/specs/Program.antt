-- What a text says: its blocks, or its first fault.
use Rattle.std.specs.Prelude.{◌≡◌, ◌⊎◌, ℕ, ◌+◌, Bool, false, not, nat_lt, List, [], ◌∷◌, ◌++◌, length, map, Option, Some, None, is_some, unwrap_or}
use Rattle.std.specs.Prelude.{position, option_map, Result, Ok, Err, if◌then◌else◌}
use Rattle.std.specs.List.{list_any}
use Rattle.std.specs.Option.{option_to_list}
use Rattle.std.specs.Str.{bytes_eq}
use Rattle.c62_insn.specs.Insn.{aimed_operands}
use Rattle.c62_read.specs.declared.limits.TheConstants.{MOST_BLOCKS, MOST_BYTES, MOST_INSTRUCTIONS}
use Rattle.c62_line.specs.declared.fault.Cause.{Cause}
use Rattle.c62_line.specs.declared.fault.Cause.TheVariants.{DuplicateLabel, UnknownTarget, TooManyInstructions, TooManyBlocks, TextTooLong, Memory}
use Rattle.c62_line.specs.declared.fault.ReadFault.{ReadFault}
use Rattle.c62_read.specs.declared.block.SerialInsn.{SerialInsn}
use Rattle.c62_read.specs.Block.{Serial}
use Rattle.c62_read.specs.Text.{lines_of}
use Rattle.c62_op.specs.Shape.{is_branch}
use Rattle.c62_line.specs.Line.{Parts, parts_of, Says, Nothing, Pause, Does, Jumps, head_of, line_of, label_field, fault_in}
use Rattle.c62_op.specs.declared.set.InstructionSet.{InstructionSet}

abbrev pub Name : Type 0
Name = List ℕ

-- ---- labels

-- the labels of all lines
abbrev pub labels_of : List (List ℕ) → List Name
labels_of [] = []
labels_of (line ∷ lines) = option_to_list (label_field line) ++ labels_of lines

abbrev pub is_among : Name → List Name → Bool
is_among label labels = list_any (λ other. bytes_eq other label) labels

abbrev pub label_is : Name → Option Name → Bool
label_is label None = false
label_is label (Some other) = bytes_eq other label

-- ---- labels and instructions

-- an instruction and its line
pub record Numbered : Type 0 where
  pub parts : Parts
  pub line : ℕ

-- a label, or an instruction with the label that it branches to, if it branches to one
pub data Item : Type 0 where
  Begins : Name → Item
  Runs : Numbered → Option Name → Item

abbrev pub label_items : Option Name → List Item
label_items None = []
label_items (Some label) = Begins label ∷ []

abbrev pub says_items : ℕ → Says → List Item
says_items number Nothing = []
says_items number (Pause n) = []
says_items number (Does parts) = Runs (record { parts = parts; line = number }) None ∷ []
says_items number (Jumps parts target) = Runs (record { parts = parts; line = number }) (Some target) ∷ []

abbrev pub line_items : ℕ → Result (Option Name × Says) Cause → List Item
line_items number (Ok (label, says)) = label_items label ++ says_items number says
line_items number (Err cause) = []

-- the labels and instructions of these lines in their order, the first line having this number
abbrev pub items_from : InstructionSet → ℕ → List (List ℕ) → List Item
items_from isa number [] = []
items_from isa number (line ∷ lines) = line_items number (line_of isa line) ++ items_from isa (number + 1) lines

-- ---- blocks

-- a block, and the label that its last instruction branches to
pub record Draft : Type 0 where
  pub label : Option Name
  pub insns : List Numbered
  pub target : Option Name

-- a block of one label or one instruction
abbrev pub piece_of : Item → Draft
piece_of (Begins label) = record { label = Some label; insns = []; target = None }
piece_of (Runs entry target) = record { label = None; insns = entry ∷ []; target = target }

abbrev pub ends_block : Item → Bool
ends_block (Begins label) = false
ends_block (Runs entry target) = is_branch entry.parts.op

abbrev pub joined : Draft → Draft → Draft
joined piece draft = record { label = piece.label; insns = piece.insns ++ draft.insns; target = draft.target }

-- a piece in front of blocks is the front of the first of them, but where that begins with a label
abbrev pub glue : Draft → List Draft → List Draft
glue piece [] = piece ∷ []
glue piece (draft ∷ drafts) = if is_some draft.label then piece ∷ draft ∷ drafts else joined piece draft ∷ drafts

-- The blocks of labels and instructions: these are cut before each label and behind each branch.
abbrev pub cut : List Item → List Draft
cut [] = []
cut (item ∷ items) = if ends_block item then piece_of item ∷ cut items else glue (piece_of item) (cut items)

-- the blocks of a text's first lines
abbrev pub blocks_from : InstructionSet → List (List ℕ) → List Draft
blocks_from isa lines = cut (items_from isa 1 lines)

-- ---- faults

abbrev pub fault_if : Bool → Cause → Option Cause
fault_if faulty cause = if faulty then Some cause else None

abbrev pub first_of : {T : Type 0} → List (Option T) → Option T
first_of [] = None
first_of (Some x ∷ others) = Some x
first_of (None ∷ others) = first_of others

-- whether the line has a label that one of these has
abbrev pub repeats_label : List Name → List ℕ → Bool
repeats_label labels line = list_any (λ label. is_among label labels) (option_to_list (label_field line))

-- whether what is said is a branch to none of these labels
abbrev pub misses_label : List Name → Result (Option Name × Says) Cause → Bool
misses_label labels (Ok (label, Jumps parts target)) = not (is_among target labels)
misses_label labels said = false

abbrev pub is_overfull : Draft → Bool
is_overfull draft = nat_lt MOST_INSTRUCTIONS (length draft.insns)

-- What is wrong with a line that stands behind these, in the order in which it is told: the line's head by itself, a label
-- that an earlier line has, the rest of the line by itself, a branch to no label of the text, the 257th instruction of a
-- block, the 65th block.
unfoldable pub fault_of : InstructionSet → List Name → List (List ℕ) → List ℕ → Option Cause
fault_of isa labels before line =
    first_of (fault_in (head_of line)
    ∷ fault_if (repeats_label (labels_of before) line) DuplicateLabel
    ∷ fault_in (line_of isa line)
    ∷ fault_if (misses_label labels (line_of isa line)) UnknownTarget
    ∷ fault_if (list_any is_overfull (blocks_from isa (before ++ line ∷ []))) TooManyInstructions
    ∷ fault_if (nat_lt MOST_BLOCKS (length (blocks_from isa (before ++ line ∷ [])))) TooManyBlocks
    ∷ [])

-- the number of a line, from 1, and its fault; a fault of no line has 0
abbrev pub Refusal : Type 0
Refusal = ℕ × Cause

-- the first faulty one of these lines, which stand behind others, with its fault
unfoldable pub first_fault : InstructionSet → List Name → List (List ℕ) → List (List ℕ) → Option Refusal
first_fault isa labels before [] = None
first_fault isa labels before (line ∷ lines) =
    first_of (option_map (λ cause. (length before + 1, cause)) (fault_of isa labels before line) ∷ first_fault isa labels (before ++ line ∷ []) lines ∷ [])

abbrev pub unless_refused : {T : Type 0} → Option Refusal → T → Result T Refusal
unless_refused None value = Ok value
unless_refused (Some refusal) value = Err refusal

abbrev pub most_bytes : ℕ
most_bytes = MOST_BYTES

-- the blocks of a text with the labels that they branch to, or its first fault
unfoldable pub drafts_in : InstructionSet → List ℕ → Result (List Draft) Refusal
drafts_in isa text =
    if nat_lt most_bytes (length text) then Err (0, TextTooLong)
    else unless_refused (first_fault isa (labels_of (lines_of text)) [] (lines_of text)) (blocks_from isa (lines_of text))

-- ---- targets by number

abbrev pub target_number : List Draft → Option Name → ℕ
target_number drafts None = 0
target_number drafts (Some label) = unwrap_or (position (λ draft. label_is label draft.label) drafts) 0

-- a branch to a label goes to the block of this number
abbrev pub aimed : ℕ → Numbered → Numbered
aimed number entry =
    record {
      parts = record {
        op = entry.parts.op;
        operands = aimed_operands number entry.parts.operands;
        cond = entry.parts.cond;
        unit = entry.parts.unit;
      };
      line = entry.line;
    }

-- a block as a program has it, by its parts
pub record BlockParts : Type 0 where
  pub label : Option Name
  pub insns : List Numbered

abbrev pub block_in : List Draft → Draft → BlockParts
block_in drafts draft = record { label = draft.label; insns = map (aimed (target_number drafts draft.target)) draft.insns }

abbrev pub and_then : {T S : Type 0} → Result T Refusal → (T → Result S Refusal) → Result S Refusal
and_then (Ok value) next = next value
and_then (Err refusal) next = Err refusal

-- what a text says: its blocks, or its first fault
unfoldable pub program_in : InstructionSet → List ℕ → Result (List BlockParts) Refusal
program_in isa text = and_then (drafts_in isa text) (λ drafts. Ok (map (block_in drafts) drafts))

-- ---- what a call answers

abbrev pub numbered_of : SerialInsn → Numbered
numbered_of entry = record { parts = parts_of entry.insn; line = entry.line }

abbrev pub block_parts : Serial → BlockParts
block_parts block = record { label = block.label; insns = map numbered_of block.insns }

-- memory may run out before any answer
abbrev pub Fails : {T : Type 0} → ReadFault → Result T Refusal → Type 0
Fails fault says = (fault ≡ record { line = 0; cause = Memory }) ⊎ (says ≡ Err (fault.line, fault.cause))
