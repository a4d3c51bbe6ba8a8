-- How the reader goes over the lines of a text, once and from the first: what it has of the lines so far, and what the next
-- line does to that. What a text says is defined without it (Program), and the two are proved equal.
use Rattle.std.specs.Prelude.{ℕ, ◌+◌, Bool, true, false, not, ◌&&◌, ◌||◌, nat_le, List, [], ◌∷◌, ◌++◌, length, map, Option, Some, None, is_some}
use Rattle.std.specs.Prelude.{is_none, option_map, position, unwrap_or, Result, Ok, Err, if◌then◌else◌}
use Rattle.std.specs.List.{filter, flat_map, list_any}
use Rattle.std.specs.Option.{option_to_list}
use Rattle.c62_op.specs.declared.operands.Op.{Op}
use Rattle.c62_read.specs.declared.limits.TheConstants.{MOST_BLOCKS, MOST_INSTRUCTIONS}
use Rattle.c62_line.specs.declared.fault.Cause.{Cause}
use Rattle.c62_line.specs.declared.fault.Cause.TheVariants.{DuplicateLabel, UnknownTarget, TooManyInstructions, TooManyBlocks}
use Rattle.c62_line.specs.declared.fault.ReadFault.{ReadFault}
use Rattle.c62_read.specs.declared.jump.Jump.{Jump}
use Rattle.c62_read.specs.declared.program.BlockReader.{BlockReader}
use Rattle.c62_read.specs.declared.program.TextReader.{TextReader}
use Rattle.c62_read.specs.Block.{branch_last}
use Rattle.c62_op.specs.Shape.{is_branch}
use Rattle.c62_line.specs.Line.{Parts, Says, Nothing, Pause, Does, Jumps, head_of, rest_says}
use Rattle.c62_read.specs.Program.{Name, Draft, Refusal, and_then, is_among, label_is, numbered_of}
use Rattle.c62_op.specs.declared.set.InstructionSet.{InstructionSet}

-- the blocks that are whole, and the one that the next instruction goes into
pub record Drafts : Type 0 where
  pub done : List Draft
  pub current : Option Draft

abbrev pub draft_operations : Draft → List Op
draft_operations draft = map (λ entry. entry.parts.op) draft.insns

-- at most 256 instructions, and a branch only as the last
abbrev pub is_whole : Draft → Bool
is_whole draft = nat_le (length draft.insns) MOST_INSTRUCTIONS && branch_last (draft_operations draft)

abbrev pub new_draft : Option Name → Draft
new_draft label = record { label = label; insns = []; target = None }

abbrev pub all_drafts : Drafts → List Draft
all_drafts drafts = drafts.done ++ option_to_list drafts.current

-- the labels of blocks
abbrev pub own_labels : List Draft → List Name
own_labels drafts = flat_map (λ draft. option_to_list draft.label) drafts

-- a label begins a block
abbrev pub with_label : Option Name → Drafts → Drafts
with_label None drafts = drafts
with_label (Some label) drafts = record { done = all_drafts drafts; current = Some (new_draft (Some label)) }

-- where no block is open, an instruction begins one
abbrev pub opened : Option Draft → Draft
opened None = new_draft None
opened (Some draft) = draft

abbrev pub with_insn : Parts → ℕ → Option Name → Draft → Draft
with_insn parts line target draft =
    record { label = draft.label; insns = draft.insns ++ record { parts = parts; line = line } ∷ []; target = target }

-- a branch ends its block
abbrev pub closed : Bool → List Draft → Draft → Drafts
closed true done draft = record { done = done ++ draft ∷ []; current = None }
closed false done draft = record { done = done; current = Some draft }

unfoldable pub with_says : ℕ → Says → Drafts → Drafts
with_says line Nothing drafts = drafts
with_says line (Pause n) drafts = drafts
with_says line (Does parts) drafts = closed (is_branch parts.op) drafts.done (with_insn parts line None (opened drafts.current))
with_says line (Jumps parts label) drafts = closed (is_branch parts.op) drafts.done (with_insn parts line (Some label) (opened drafts.current))

-- ---- the same blocks in the reader

abbrev pub draft_of : BlockReader → Draft
draft_of block = record { label = block.label; insns = map numbered_of block.insns.items; target = block.target }

abbrev pub drafts_of : TextReader → Drafts
drafts_of text = record { done = map draft_of text.done.items; current = option_map draft_of text.current }

-- the number of the block with this label, by the labels of all blocks
abbrev pub number_among : List (Option Name) → Option Name → ℕ
number_among labels None = 0
number_among labels (Some label) = unwrap_or (position (λ other. label_is label other) labels) 0

-- ---- the faults that need other lines

-- whether an earlier line has the label
unfoldable pub is_taken : Option Name → Drafts → Bool
is_taken None drafts = false
is_taken (Some label) drafts = list_any (λ draft. label_is label draft.label) (all_drafts drafts)

abbrev pub is_unknown : List Name → Says → Bool
is_unknown labels (Jumps parts label) = not (is_among label labels)
is_unknown labels _ = false

abbrev pub is_instruction : Says → Bool
is_instruction Nothing = false
is_instruction (Pause n) = false
is_instruction _ = true

abbrev pub is_full : Option Draft → Bool
is_full None = false
is_full (Some draft) = nat_le MOST_INSTRUCTIONS (length draft.insns)

-- whether the line begins a block: by its label, or by an instruction where no block is open
abbrev pub begins_block : Option Name → Says → Drafts → Bool
begins_block label says drafts = is_some label || is_instruction says && is_none drafts.current

-- what stands against a line that says something by itself: a 257th instruction of a block, a 65th block
unfoldable pub hindrance : Option Name → Says → Drafts → Option Cause
hindrance label says drafts =
    if is_instruction says && is_none label && is_full drafts.current then Some TooManyInstructions
    else (if begins_block label says drafts && nat_le MOST_BLOCKS (length (all_drafts drafts)) then Some TooManyBlocks
    else None)

-- ---- lines

-- What a line says, and the blocks with it or what is wrong with the line but for a branch to no label. Such a branch comes
-- before the counts, and behind the faults of lines that here say nothing.
pub record Step : Type 0 where
  pub says : Says
  pub drafts : Result Drafts Cause

abbrev pub refused : Cause → Step
refused cause = record { says = Nothing; drafts = Err cause }

abbrev pub unless_hindered : Option Cause → Drafts → Result Drafts Cause
unless_hindered (Some cause) drafts = Err cause
unless_hindered None drafts = Ok drafts

abbrev pub add_says : ℕ → Option Name → Drafts → Result Says Cause → Step
add_says number label drafts (Err cause) = refused cause
add_says number label drafts (Ok says) =
    record { says = says; drafts = unless_hindered (hindrance label says drafts) (with_says number says (with_label label drafts)) }

abbrev pub add_head : InstructionSet → ℕ → Drafts → Result (Option Name × List (List ℕ)) Cause → Step
add_head isa number drafts (Err cause) = refused cause
add_head isa number drafts (Ok (label, words)) =
    if is_taken label drafts then refused DuplicateLabel else add_says number label drafts (rest_says isa words)

unfoldable pub add_line : InstructionSet → ℕ → List ℕ → Drafts → Step
add_line isa number line drafts = add_head isa number drafts (head_of line)

abbrev pub at_line : {T : Type 0} → ℕ → Result T Cause → Result T Refusal
at_line number (Ok value) = Ok value
at_line number (Err cause) = Err (number, cause)

-- the fault of a line, which may be a branch to none of these labels, or what comes behind it
abbrev pub after_step : List Name → ℕ → Step → (Drafts → Result Drafts Refusal) → Result Drafts Refusal
after_step labels number step next =
    if is_unknown labels step.says then Err (number, UnknownTarget) else and_then (at_line number step.drafts) next

-- The blocks with what these lines say, of which the first has this number, or the first faulty line with its fault. The labels
-- are those of the text.
unfoldable pub add_lines : InstructionSet → List Name → ℕ → List (List ℕ) → Drafts → Result Drafts Refusal
add_lines isa labels number [] drafts = Ok drafts
add_lines isa labels number (line ∷ lines) drafts =
    after_step labels number (add_line isa number line drafts) (λ more. add_lines isa labels (number + 1) lines more)

abbrev pub no_drafts : Drafts
no_drafts = record { done = []; current = None }

-- ---- branches that wait until the labels are known

-- a line, and the label that it branches to
pub record Asked : Type 0 where
  pub line : ℕ
  pub target : Name

abbrev pub asked_in : ℕ → Says → List Asked
asked_in number (Jumps parts target) = record { line = number; target = target } ∷ []
asked_in number says = []

abbrev pub asked_of : Jump → Asked
asked_of jump = record { line = jump.line; target = jump.target }

-- the branches to none of these labels
abbrev pub missed : List Name → List Asked → List Asked
missed labels asked = filter (λ branch. not (is_among branch.target labels)) asked

abbrev pub first_line : List Asked → Option ℕ
first_line [] = None
first_line (branch ∷ others) = Some branch.line

-- a branch to no label, in this line, comes before another answer
abbrev pub unless_missed : {T : Type 0} → Option ℕ → Result T Refusal → Result T Refusal
unless_missed None answer = answer
unless_missed (Some line) answer = Err (line, UnknownTarget)

abbrev pub failed : ReadFault → Result Drafts Refusal
failed fault = Err (fault.line, fault.cause)
