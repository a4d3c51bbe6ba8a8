-- The lines of packets that are adopted are those of their text (docs/ADOPT.md, "What holds").
use Rattle.std.specs.Prelude.{◌≡◌, ℕ, ◌+◌, Bool, All, List, Some, None, Ok, option_map, slice_get}
use Rattle.c62_line.specs.Line.{Parts, Says, Does, Jumps, parts_of}
use Rattle.c62_read.specs.Text.{lines_of}
use Rattle.c62_packet.specs.declared.placed.Placed.{Placed}
use Rattle.c62_packet.specs.Packed.{Packed}
use Rattle.c62_listing_reader.specs.Said.{aimed_parts}
use Rattle.c62_adopt_line.specs.Line.{Line, line_says}
use Rattle.c62_adopt_cut.specs.Blocks.{Draft}
use Rattle.c62_adopt_cut.specs.Text.{text_cut}
use Rattle.c62_adopt.specs.Answer.{IsAdopted, code_in, code_read}
use Rattle.c62_adopt.specs.Blocks.{target_number}
use Rattle.c62_op.specs.declared.set.InstructionSet.{InstructionSet}

-- these words of a line say an instruction; a branch to a label goes to the block that this stands for
abbrev pub IsSaid : List Draft → Says → Parts → Type 0
IsSaid drafts (Does said) parts = parts ≡ aimed_parts (target_number drafts None) said
IsSaid drafts (Jumps said label) parts = parts ≡ aimed_parts (target_number drafts (Some label)) said
IsSaid drafts _ parts = ⊥

-- the line of this instruction's number, counted from 1, says it
pub record IsOfLine (isa : InstructionSet) (code : List ℕ) (p : Placed) : Type 0 where
  pub above : ℕ
  pub number : p.line ≡ above + 1
  pub line : Line
  pub is_line : option_map (line_says isa) (slice_get (lines_of code) above) ≡ Some (Ok line)
  pub said : IsSaid (text_cut isa code).drafts line.says (parts_of p.insn)

-- so it is of all instructions of packets that a text is adopted as, and its code
abbrev pub HaveTheirLines : InstructionSet → Bool → List ℕ → Type 0
HaveTheirLines isa drain text =
    (packets : List Packed) (added : ℕ) → IsAdopted isa drain text packets added → All (λ block. All (IsOfLine isa (code_in (code_read isa text))) block.placed) packets
