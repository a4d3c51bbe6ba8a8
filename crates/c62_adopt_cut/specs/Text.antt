-- What a text of packets says: its blocks, or its first faulty line (docs/ADOPT.md, "Faults of a text").
use Rattle.std.specs.Prelude.{ℕ, ◌+◌, Bool, false, not, ◌&&◌, ◌||◌, nat_le, nat_lt, if◌then◌else◌, List, [], ◌∷◌, length, Option, Some, None, is_some, is_none}
use Rattle.std.specs.Prelude.{Result, Ok, Err}
use Rattle.std.specs.List.{list_any}
use Rattle.c62_op.specs.Shape.{is_branch, writes_of}
use Rattle.c62_insn.specs.Insn.{greatest_delay}
use Rattle.c62_line.specs.declared.fault.Cause.{Cause}
use Rattle.c62_line.specs.declared.fault.Cause.TheVariants.{ParallelBar, DuplicateLabel, TooManyInstructions, TooManyBlocks, TextTooLong}
use Rattle.c62_line.specs.Line.{Parts, Says, Does, Jumps}
use Rattle.c62_read.specs.declared.limits.TheConstants.{MOST_BLOCKS, MOST_INSTRUCTIONS}
use Rattle.c62_read.specs.Program.{Name, label_is}
use Rattle.c62_read.specs.Walk.{is_instruction}
use Rattle.c62_read.specs.Text.{lines_of}
use Rattle.c62_packet.specs.declared.limits.TheConstants.{MOST_CYCLES}
use Rattle.c62_adopt_line.specs.declared.fault.LineFault.{LineFault}
use Rattle.c62_adopt_line.specs.declared.fault.LineFault.TheVariants.{Read}
use Rattle.c62_adopt_line.specs.Line.{Line, line_says}
use Rattle.c62_adopt_cut.specs.declared.clock.Stand.{Stand}
use Rattle.c62_adopt_cut.specs.declared.fault.TextCause.{TextCause}
use Rattle.c62_adopt_cut.specs.declared.fault.TextCause.TheVariants.{Line as OfLine, TooManyCycles}
use Rattle.c62_adopt_cut.specs.declared.text.TheConstants.{MOST_BYTES}
use Rattle.c62_adopt_cut.specs.Cut.{cycles_of, last_packet, stand_of}
use Rattle.c62_adopt_cut.specs.Blocks.{Draft, Drafts, all_drafts, begins_at, no_drafts, with_line}
use Rattle.c62_op.specs.declared.set.InstructionSet.{InstructionSet}

-- ---- a line below others

abbrev pub read_cause : Cause → TextCause
read_cause cause = OfLine (Read cause)

-- whether a block has the label already
abbrev pub is_taken : Option Name → Drafts → Bool
is_taken None drafts = false
is_taken (Some label) drafts = list_any (λ draft. label_is label draft.label) (all_drafts drafts)

-- The cycle before which all lands that an instruction writes which is issued in this cycle. A branch takes effect in it.
abbrev pub end_of : Parts → ℕ → ℕ
end_of parts cycle = if is_branch parts.op then cycle + 6 else cycle + greatest_delay (writes_of parts.op parts.operands) + 1

abbrev pub ends_behind : ℕ → Stand → Parts → Bool
ends_behind most stand parts = nat_lt (stand.start + most) (end_of parts stand.cycle)

-- an instruction in flight behind the last cycle that its block may have
abbrev pub is_too_late : Stand → Says → Bool
is_too_late stand (Does parts) = ends_behind MOST_CYCLES stand parts
is_too_late stand (Jumps parts target) = ends_behind MOST_CYCLES stand parts
is_too_late stand _ = false

-- a line begins a block by its label, or by an instruction where the block above began in another cycle
abbrev pub begins_block : Stand → Line → Drafts → Bool
begins_block stand line drafts = is_some line.label || is_instruction line.says && not (begins_at stand.start drafts.current)

abbrev pub is_full : Option Draft → Bool
is_full None = false
is_full (Some draft) = nat_le MOST_INSTRUCTIONS (length draft.issues)

abbrev pub is_one_more : Stand → Line → Drafts → Bool
is_one_more stand line drafts = is_instruction line.says && not (begins_block stand line drafts) && is_full drafts.current

abbrev pub begins_one_more : Stand → Line → Drafts → Bool
begins_one_more stand line drafts = begins_block stand line drafts && nat_le MOST_BLOCKS (length (all_drafts drafts))

-- what stands against a line that says something by itself, below these
unfoldable pub hindrance : List Line → Drafts → Line → Option TextCause
hindrance above drafts line =
    if line.beside && is_none (last_packet above) then Some (read_cause ParallelBar)
    else (if is_taken line.label drafts then Some (read_cause DuplicateLabel)
    else (if is_too_late (stand_of above line) line.says then Some TooManyCycles
    else (if is_one_more (stand_of above line) line drafts then Some (read_cause TooManyInstructions)
    else (if begins_one_more (stand_of above line) line drafts then Some (read_cause TooManyBlocks)
    else None))))

abbrev pub unless_hindered : Option TextCause → Line → Result Line TextCause
unless_hindered None line = Ok line
unless_hindered (Some cause) line = Err cause

abbrev pub judged : List Line → Drafts → Result Line LineFault → Result Line TextCause
judged above drafts (Ok line) = unless_hindered (hindrance above drafts line) line
judged above drafts (Err fault) = Err (OfLine fault)

-- what a line says below these, or its fault
abbrev pub line_judged : InstructionSet → List Line → Drafts → List ℕ → Result Line TextCause
line_judged isa above drafts bytes = judged above drafts (line_says isa bytes)

-- ---- a text

-- the number of a line, and its fault
abbrev pub Refusal : Type 0
Refusal = ℕ × TextCause

-- what is read of a text: its blocks as far as its first line with a fault, the cycles of the lines above that, and that fault
pub record Cut : Type 0 where
  pub drafts : List Draft
  pub cycles : ℕ
  pub fault : Option Refusal

abbrev pub cut_at : List Line → Drafts → Option Refusal → Cut
cut_at above drafts fault = record { drafts = all_drafts drafts; cycles = cycles_of above; fault = fault }

abbrev pub and_line : List Line → Drafts → ℕ → Result Line TextCause → (Line → Cut) → Cut
and_line above drafts number (Ok line) next = next line
and_line above drafts number (Err cause) next = cut_at above drafts (Some (number, cause))

-- these lines below those, the first of them with this number
unfoldable pub read_below : InstructionSet → List Line → Drafts → ℕ → List (List ℕ) → Cut
read_below isa above drafts number [] = cut_at above drafts None
read_below isa above drafts number (bytes ∷ lines) =
    and_line above drafts number (line_judged isa above drafts bytes)
    (λ line. read_below isa (line ∷ above) (with_line number (stand_of above line) line drafts) (number + 1) lines)

abbrev pub most_bytes : ℕ
most_bytes = MOST_BYTES

abbrev pub too_long : Cut
too_long = cut_at [] no_drafts (Some (0, read_cause TextTooLong))

-- what is read of a text; one that is too long is not looked at
unfoldable pub text_cut : InstructionSet → List ℕ → Cut
text_cut isa text = if nat_lt most_bytes (length text) then too_long else read_below isa [] no_drafts 1 (lines_of text)
