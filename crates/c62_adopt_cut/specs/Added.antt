-- What adding a line does.
use Rattle.std.specs.Prelude.{◌≡◌, ℕ, List, ◌∷◌, Option, Some, None, Result, Ok, Err, MatchOption, MatchResult}
use Rattle.std.specs.declared.alloc.AllocError.{AllocError}
use Rattle.c62_adopt_line.specs.declared.fault.LineFault.{LineFault}
use Rattle.c62_adopt_line.specs.declared.fault.LineFault.TheVariants.{Memory}
use Rattle.c62_adopt_line.specs.Line.{Line}
use Rattle.c62_adopt_cut.specs.declared.fault.TextCause.{TextCause}
use Rattle.c62_adopt_cut.specs.declared.fault.TextCause.TheVariants.{Line as OfLine}
use Rattle.c62_adopt_cut.specs.declared.text.Reader.{Reader}
use Rattle.c62_adopt_cut.specs.Cut.{stand_of}
use Rattle.c62_adopt_cut.specs.Clock.{IsClockOf}
use Rattle.c62_adopt_cut.specs.Blocks.{with_line}
use Rattle.c62_adopt_cut.specs.Drafted.{drafts_of}
use Rattle.c62_adopt_cut.specs.Text.{hindrance, line_judged}
use Rattle.c62_op.specs.declared.set.InstructionSet.{InstructionSet}

-- nothing stands against the line, and the reader has what it says, too
pub record AddsWritten (above : List Line) (number : ℕ) (line : Line) (old new : Reader) : Type 0 where
  pub free : hindrance above (drafts_of old.drafts) line ≡ None
  pub clock : IsClockOf new.clock (line ∷ above)
  pub drafts : drafts_of new.drafts ≡ with_line number (stand_of above line) line (drafts_of old.drafts)

-- this stands against the line, and the reader is as it was
pub record RefusesWritten (above : List Line) (line : Line) (old new : Reader) (cause : TextCause) : Type 0 where
  pub hindered : hindrance above (drafts_of old.drafts) line ≡ Some cause
  pub same : new ≡ old

abbrev pub TellsOfWritten : List Line → ℕ → Line → Reader → Reader → Option TextCause → Type 0
TellsOfWritten above number line old new fault = MatchOption fault (AddsWritten above number line old new) (RefusesWritten above line old new)

-- the line says something, and the reader has that, too
pub record AddsLine (isa : InstructionSet) (above : List Line) (number : ℕ) (bytes : List ℕ) (old new : Reader) : Type 0 where
  pub line : Line
  pub judged : line_judged isa above (drafts_of old.drafts) bytes ≡ Ok line
  pub clock : IsClockOf new.clock (line ∷ above)
  pub drafts : drafts_of new.drafts ≡ with_line number (stand_of above line) line (drafts_of old.drafts)

-- the line has this fault, and the reader is as it was
pub record RefusesLine (isa : InstructionSet) (above : List Line) (bytes : List ℕ) (old new : Reader) (cause : TextCause) : Type 0 where
  pub judged : line_judged isa above (drafts_of old.drafts) bytes ≡ Err cause
  pub same : new ≡ old

abbrev pub TellsOfLine : InstructionSet → List Line → ℕ → List ℕ → Reader → Reader → Option TextCause → Type 0
TellsOfLine isa above number bytes old new fault = MatchOption fault (AddsLine isa above number bytes old new) (RefusesLine isa above bytes old new)

-- memory that ran out is no fault of a line
abbrev pub TellsCause : LineFault → Result TextCause AllocError → Type 0
TellsCause fault told = MatchResult told (λ cause. (cause ≡ OfLine fault) × (fault ≡ Memory → ⊥)) (λ memory. fault ≡ Memory)
