-- A text is read line by line.
use Rattle.std.proofs.Common.{◌≡◌, ◌≤◌, ◌<◌, ◌+◌, ◌∙◌, ap, sym, refl, ℕ, List, ◌∷◌, [], length, Some, None, Err, arith}
use Rattle.c62_read.specs.Text.{lines_of}
use Rattle.c62_adopt_line.specs.Line.{Line}
use Rattle.c62_adopt_cut.specs.declared.fault.TextCause.{TextCause}
use Rattle.c62_adopt_cut.specs.declared.text.Reader.{Reader}
use Rattle.c62_adopt_cut.specs.Clock.{IsClockOf}
use Rattle.c62_adopt_cut.specs.Blocks.{Drafts, no_drafts}
use Rattle.c62_adopt_cut.specs.Drafted.{drafts_of}
use Rattle.c62_adopt_cut.specs.Text.{cut_at, line_judged, read_below}
use Rattle.c62_adopt_cut.specs.Added.{AddsLine, RefusesLine}
use Rattle.c62_op.specs.declared.set.InstructionSet.{InstructionSet}

-- the lines above were read, and what is left leads to the same as the whole
pub record IsReadSoFar (isa : InstructionSet) (reader : Reader) (number : ℕ) (rest text : List ℕ) : Type 0 where
  pub above : List Line
  pub clock : IsClockOf reader.clock above
  pub so_far : read_below isa above (drafts_of reader.drafts) number (lines_of rest) ≡ read_below isa [] no_drafts 1
      (lines_of text)
  pub counted : length above + length rest ≤ length text
  pub numbered : number ≡ length above + 1

read_more : (isa : InstructionSet) (above : List Line) (old new : Reader) (number : ℕ) (bytes : List ℕ)
    (lines : List (List ℕ))
    (adds : AddsLine isa above number bytes old new)
    → read_below isa (adds.line ∷ above) (drafts_of new.drafts) (number + 1) lines
    ≡ read_below isa above (drafts_of old.drafts)
    number (bytes ∷ lines)
unfolding read_below
read_more isa above old new number bytes lines adds = rw (adds.judged, adds.drafts) refl

pub one_more : (isa : InstructionSet) (old new : Reader) (number : ℕ) (bytes rest after text : List ℕ)
    (far : IsReadSoFar isa old number rest text)
    → lines_of rest ≡ bytes ∷ lines_of after → length after < length rest → AddsLine isa far.above number bytes old new
    → IsReadSoFar isa new (number + 1) after text
one_more isa old new number bytes rest after text far first shorter adds =
    record {
      above = adds.line ∷ far.above;
      clock = adds.clock;
      so_far = read_more isa far.above old new number bytes (lines_of after) adds
          ∙ ap (read_below isa far.above (drafts_of old.drafts) number) (sym first) ∙ far.so_far;
      counted = omega (arith, far.counted);
      numbered = omega (arith, far.numbered);
    }

refused_here : (isa : InstructionSet) (above : List Line) (drafts : Drafts) (number : ℕ) (bytes : List ℕ)
    (lines : List (List ℕ))
    (cause : TextCause)
    → line_judged isa above drafts bytes ≡ Err cause
    → read_below isa above drafts number (bytes ∷ lines) ≡ cut_at above drafts (Some (number, cause))
unfolding read_below
refused_here isa above drafts number bytes lines cause is = rw is refl

pub refused_at : (isa : InstructionSet) (old new : Reader) (number : ℕ) (bytes rest after text : List ℕ)
    (cause : TextCause)
    (far : IsReadSoFar isa old number rest text)
    → lines_of rest ≡ bytes ∷ lines_of after → RefusesLine isa far.above bytes old new cause
    → cut_at far.above (drafts_of new.drafts) (Some (number, cause)) ≡ read_below isa [] no_drafts 1 (lines_of text)
refused_at isa old new number bytes rest after text cause far first refuses =
    ap (λ (reader : Reader). cut_at far.above (drafts_of reader.drafts) (Some (number, cause))) refuses.same
    ∙ sym (refused_here isa far.above (drafts_of old.drafts) number bytes (lines_of after) cause refuses.judged)
    ∙ ap (read_below isa far.above (drafts_of old.drafts) number) (sym first) ∙ far.so_far

done_here : (isa : InstructionSet) (above : List Line) (drafts : Drafts) (number : ℕ)
    → cut_at above drafts None ≡ read_below isa above drafts number []
unfolding read_below
done_here isa above drafts number = refl

pub all_read : (isa : InstructionSet) (reader : Reader) (number : ℕ) (rest text : List ℕ)
    (far : IsReadSoFar isa reader number rest text)
    → lines_of rest ≡ []
    → cut_at far.above (drafts_of reader.drafts) None ≡ read_below isa [] no_drafts 1 (lines_of text)
all_read isa reader number rest text far none =
    done_here isa far.above (drafts_of reader.drafts) number
    ∙ ap (read_below isa far.above (drafts_of reader.drafts) number) (sym none) ∙ far.so_far
