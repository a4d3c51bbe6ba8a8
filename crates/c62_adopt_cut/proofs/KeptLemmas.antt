-- What each line keeps of the blocks above it, the blocks have that are read of a text.
use Rattle.std.proofs.Common.{◌≡◌, ◌+◌, ◌&&◌, refl, true, false, ltb, ℕ, Bool, List, ◌∷◌, [], length, Option, Some}
use Rattle.std.proofs.Common.{None, Ok, Err, cond, inl, inr}
use Rattle.std.specs.Prelude.{Result, is_none}
use Rattle.std.proofs.lemmas.Bool.{cases_Bool}
use Rattle.c62_line.specs.declared.fault.Cause.TheVariants.{ParallelBar, DuplicateLabel, TooManyInstructions}
use Rattle.c62_line.specs.declared.fault.Cause.TheVariants.{TooManyBlocks}
use Rattle.c62_read.specs.Text.{lines_of}
use Rattle.c62_adopt_line.specs.declared.fault.LineFault.{LineFault}
use Rattle.c62_adopt_line.specs.Line.{Line, line_says}
use Rattle.c62_adopt_line.specs.Laws.{IsWhole}
use Rattle.c62_adopt_line.proofs.WholeLines.{line_whole}
use Rattle.c62_adopt_cut.specs.declared.fault.TextCause.{TextCause}
use Rattle.c62_adopt_cut.specs.declared.fault.TextCause.TheVariants.{TooManyCycles}
use Rattle.c62_adopt_cut.specs.Cut.{last_packet, stand_of}
use Rattle.c62_adopt_cut.specs.Blocks.{Draft, Drafts, all_drafts, no_drafts, with_line}
use Rattle.c62_adopt_cut.specs.Text.{Cut, and_line, begins_one_more, hindrance, is_one_more, is_taken, is_too_late}
use Rattle.c62_adopt_cut.specs.Text.{judged, read_below, read_cause, text_cut}
use Rattle.c62_adopt_cut.specs.Text.{unless_hindered}
use Rattle.c62_adopt_cut.specs.declared.text.TheConstants.{MOST_BYTES}
use Rattle.c62_op.specs.declared.set.InstructionSet.{InstructionSet}

-- ---- what stands against no line

pub record IsFree (above : List Line) (drafts : Drafts) (line : Line) : Type 0 where
  pub bars : (line.beside && is_none (last_packet above)) ≡ false
  pub taken : is_taken line.label drafts ≡ false
  pub late : is_too_late (stand_of above line) line.says ≡ false
  pub more : is_one_more (stand_of above line) line drafts ≡ false
  pub blocks : begins_one_more (stand_of above line) line drafts ≡ false

free_of : (bars taken late more blocks : Bool)
    → cond bars (Some (read_cause ParallelBar))
    (cond taken (Some (read_cause DuplicateLabel)) (cond late (Some TooManyCycles)
    (cond more (Some (read_cause TooManyInstructions)) (cond blocks (Some (read_cause TooManyBlocks)) None)))) ≡ None
    → (bars ≡ false) × (taken ≡ false) × (late ≡ false) × (more ≡ false) × (blocks ≡ false)
free_of false false false false false none = (refl, refl, refl, refl, refl)
free_of true taken late more blocks none = absurd cc
free_of false true late more blocks none = absurd cc
free_of false false true more blocks none = absurd cc
free_of false false false true blocks none = absurd cc
free_of false false false false true none = absurd cc

pub unhindered : (above : List Line) (drafts : Drafts) (line : Line) → hindrance above drafts line ≡ None
    → IsFree above drafts line
unfolding hindrance
unhindered above drafts line none =
    let all = free_of (line.beside && is_none (last_packet above)) (is_taken line.label drafts)
    (is_too_late (stand_of above line) line.says)
    (is_one_more (stand_of above line) line drafts) (begins_one_more (stand_of above line) line drafts) none in
    record { bars = all.0; taken = all.1; late = all.2; more = all.3; blocks = all.4 }

-- ---- from line to line

-- the blocks above the first line are such, those above each are so with it, too, and so are those that are read
pub record IsKept (isa : InstructionSet) (Holds : List Line → ℕ → Drafts → Type 0)
    (Says : List Draft → Type 0) : Type 0 where
  pub first : Holds [] 1 no_drafts
  pub next : (above : List Line) (number : ℕ) (drafts : Drafts) (line : Line) → IsWhole isa line
      → IsFree above drafts line
      → Holds above number drafts
      → Holds (line ∷ above) (number + 1) (with_line number (stand_of above line) line drafts)
  pub last : (above : List Line) (number : ℕ) (drafts : Drafts) → Holds above number drafts → Says (all_drafts drafts)

module _ (isa : InstructionSet) (Holds : List Line → ℕ → Drafts → Type 0) (Says : List Draft → Type 0)
    (kept : IsKept isa Holds Says) where
  module _ (above : List Line) (number : ℕ) (drafts : Drafts) (holds : Holds above number drafts) (read : Line → Cut)
      (behind : (line : Line) → Holds (line ∷ above) (number + 1) (with_line number (stand_of above line) line drafts)
      → Says (read line).drafts) where
    hindered_kept : (line : Line) → IsWhole isa line → (found : Option TextCause)
        → (found ≡ None → IsFree above drafts line)
        → Says (and_line above drafts number (unless_hindered found line) read).drafts
    hindered_kept line whole (Some cause) free = kept.last above number drafts holds
    hindered_kept line whole None free = behind line (kept.next above number drafts line whole (free refl) holds)

    said_kept : (said : Result Line LineFault) → ((line : Line) → said ≡ Ok line → IsWhole isa line)
        → Says (and_line above drafts number (judged above drafts said) read).drafts
    said_kept (Err fault) whole = kept.last above number drafts holds
    said_kept (Ok line) whole = hindered_kept line (whole line refl) (hindrance above drafts line)
        (unhindered above drafts line)

  read_kept : (above : List Line) (number : ℕ) (drafts : Drafts) (lines : List (List ℕ)) → Holds above number drafts
      → Says (read_below isa above drafts number lines).drafts
  unfolding read_below
  read_kept above number drafts [] holds = kept.last above number drafts holds
  read_kept above number drafts (bytes ∷ lines) holds =
      said_kept above number drafts holds
      (λ line. read_below isa (line ∷ above) (with_line number (stand_of above line) line drafts) (number + 1) lines)
      (λ line next. read_kept (line ∷ above) (number + 1) (with_line number (stand_of above line) line drafts) lines
      next) (line_says isa bytes) (line_whole isa bytes)

  pub text_kept : (text : List ℕ) → Says (text_cut isa text).drafts
  unfolding text_cut
  text_kept text = elim (cases_Bool (ltb MOST_BYTES (length text))) [
    | inl long ↦ rw long (kept.last [] 1 no_drafts kept.first)
    | inr short ↦ rw short (read_kept [] 1 no_drafts (lines_of text) kept.first)
  ]
