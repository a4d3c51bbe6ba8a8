-- The blocks that are read of a text are those of its lines.
use Rattle.std.proofs.Common.{◌≡◌, ◌⊎◌, ◌≤◌, ◌+◌, ◌∙◌, ap, sym, refl, true, false, ltb, ℕ, zero, suc, Bool, List, ◌∷◌}
use Rattle.std.proofs.Common.{[], length, drop, Option, Some, None, Ok, Err}
use Rattle.std.proofs.Common.{arith, inl, inr}
use Rattle.std.specs.Prelude.{Result, option_map, slice_get}
use Rattle.std.proofs.lemmas.Bool.{cases_Bool}
use Rattle.std.proofs.lemmas.Option.{same_Some}
use Rattle.c62_line.specs.declared.fault.Cause.TheVariants.{TextTooLong}
use Rattle.c62_read.specs.Text.{lines_of}
use Rattle.c62_adopt_line.specs.declared.fault.LineFault.{LineFault}
use Rattle.c62_adopt_line.specs.Line.{Line, line_says}
use Rattle.c62_adopt_line.specs.Laws.{IsWhole}
use Rattle.c62_adopt_line.proofs.WholeLines.{line_whole}
use Rattle.c62_adopt_cut.specs.declared.fault.TextCause.{TextCause}
use Rattle.c62_adopt_cut.specs.Cut.{cycles_of, stand_of}
use Rattle.c62_adopt_cut.specs.Blocks.{Drafts, all_drafts, no_drafts, with_line}
use Rattle.c62_adopt_cut.specs.Text.{Cut, Refusal, and_line, cut_at, hindrance, judged, read_below, text_cut, too_long}
use Rattle.c62_adopt_cut.specs.Text.{unless_hindered}
use Rattle.c62_adopt_cut.specs.Home.{AreOfLines, AreSaid, BlocksAreOfLines, IsReadTo}
use Rattle.c62_adopt_cut.proofs.KeptLemmas.{IsFree, unhindered}
use Rattle.c62_adopt_cut.proofs.HomeLemmas.{AreHome, are_of_lines, line_home, none_home}
use Rattle.c62_adopt_cut.specs.declared.text.TheConstants.{MOST_BYTES}
use Rattle.c62_op.specs.declared.set.InstructionSet.{InstructionSet}

-- the next of the lines
next_line : (all : List (List ℕ)) (k : ℕ) (bytes : List ℕ) (rest : List (List ℕ)) → drop k all ≡ bytes ∷ rest
    → (slice_get all k ≡ Some bytes) × (drop (suc k) all ≡ rest)
next_line [] zero bytes rest is = absurd cc
next_line [] (suc k) bytes rest is = absurd cc
next_line (first ∷ all) zero bytes rest is = (let same : first ≡ bytes = cc in ap Some same, cc)
next_line (first ∷ all) (suc k) bytes rest is = next_line all k bytes rest is

-- what is read of these lines is what lines of them say
record AreRead (isa : InstructionSet) (all : List (List ℕ)) (cut : Cut) : Type 0 where
  lines : List Line
  said : AreSaid isa all lines
  cycles : cut.cycles ≡ cycles_of lines
  whole : cut.fault ≡ None → length lines ≡ length all
  faulty : (fault : Refusal) → cut.fault ≡ Some fault → fault.0 ≡ length lines + 1
  blocks : AreOfLines lines cut.drafts

-- lines that are read, and those below them
record IsAt (isa : InstructionSet) (all : List (List ℕ)) (above : List Line) (number : ℕ) (drafts : Drafts)
    (rest : List (List ℕ)) : Type 0
  where
    said : AreSaid isa all above
    left : drop (length above) all ≡ rest
    counted : length above + length rest ≡ length all
    home : AreHome above number drafts

ends_at : (isa : InstructionSet) (all : List (List ℕ)) (above : List Line) (number : ℕ) (drafts : Drafts)
    (rest : List (List ℕ))
    (fault : Option Refusal) → IsAt isa all above number drafts rest
    → (fault ≡ None → rest ≡ []) → ((refusal : Refusal) → fault ≡ Some refusal → refusal.0 ≡ number)
    → AreRead isa all (cut_at above drafts fault)
ends_at isa all above number drafts rest fault at whole faulty = record {
  lines = above;
  said = at.said;
  cycles = refl;
  whole = λ none. let over : length rest ≡ 0 = ap length (whole none) in omega (arith, at.counted, over);
  faulty = λ refusal is. faulty refusal is ∙ at.home.numbered;
  blocks = are_of_lines above number drafts at.home;
}

goes_on : (isa : InstructionSet) (all : List (List ℕ)) (above : List Line) (number : ℕ) (drafts : Drafts)
    (bytes : List ℕ)
    (rest : List (List ℕ)) (line : Line)
    → IsAt isa all above number drafts (bytes ∷ rest) → line_says isa bytes ≡ Ok line → IsFree above drafts line
    → IsAt isa all (line ∷ above) (number + 1) (with_line number (stand_of above line) line drafts) rest
goes_on isa all above number drafts bytes rest line at says free =
    let next = next_line all (length above) bytes rest at.left in
    let here : option_map (line_says isa) (slice_get all (length above)) ≡ Some (Ok line) = rw next.0 (ap Some says) in
    record {
      said = (here, at.said);
      left = next.1;
      counted = omega (arith, at.counted);
      home = line_home isa above number drafts line (line_whole isa bytes line says) free at.home;
    }

at_number : (number : ℕ) (cause : TextCause) (refusal : Refusal) → Some (number, cause) ≡ Some refusal
    → refusal.0 ≡ number
at_number number cause refusal is = ap (λ (other : Refusal). other.0) (sym (same_Some (number, cause) refusal is))

module _ (isa : InstructionSet) (all : List (List ℕ)) where
  module _ (above : List Line) (number : ℕ) (drafts : Drafts) (bytes : List ℕ) (rest : List (List ℕ))
      (at : IsAt isa all above number drafts (bytes ∷ rest))
      (read : Line → Cut) (behind : (line : Line)
      → IsAt isa all (line ∷ above) (number + 1) (with_line number (stand_of above line) line drafts) rest
      → AreRead isa all (read line)) where
    stops : (cause : TextCause) → AreRead isa all (cut_at above drafts (Some (number, cause)))
    stops cause = ends_at isa all above number drafts (bytes ∷ rest) (Some (number, cause)) at (λ none. absurd cc)
        (at_number number cause)

    hindered_read : (line : Line) → line_says isa bytes ≡ Ok line → (found : Option TextCause)
        → (found ≡ None → IsFree above drafts line)
        → AreRead isa all (and_line above drafts number (unless_hindered found line) read)
    hindered_read line says (Some cause) free = stops cause
    hindered_read line says None free = behind line
        (goes_on isa all above number drafts bytes rest line at says (free refl))

    said_read : (said : Result Line LineFault) → line_says isa bytes ≡ said
        → AreRead isa all (and_line above drafts number (judged above drafts said) read)
    said_read (Err fault) is = stops _
    said_read (Ok line) is = hindered_read line is (hindrance above drafts line) (unhindered above drafts line)

  read_all : (above : List Line) (number : ℕ) (drafts : Drafts) (rest : List (List ℕ))
      → IsAt isa all above number drafts rest
      → AreRead isa all (read_below isa above drafts number rest)
  unfolding read_below
  read_all above number drafts [] at = ends_at isa all above number drafts [] None at (λ none. refl)
      (λ refusal is. absurd cc)
  read_all above number drafts (bytes ∷ rest) at =
      said_read above number drafts bytes rest at
      (λ line. read_below isa (line ∷ above) (with_line number (stand_of above line) line drafts) (number + 1) rest)
      (λ line next. read_all (line ∷ above) (number + 1) (with_line number (stand_of above line) line drafts) rest next)
      (line_says isa bytes) refl

-- ---- a text

reads_to : (isa : InstructionSet) (text : List ℕ) (cut : Cut) → text_cut isa text ≡ cut
    → AreRead isa (lines_of text) cut → BlocksAreOfLines isa text
reads_to isa text cut is are = record {
  lines = are.lines;
  read = rw is (record {
    said = are.said;
    cycles = are.cycles;
    whole = are.whole;
    faulty = λ fault some. inl
        (are.faulty fault some);
  });
  blocks = rw is are.blocks;
}

reads_nothing : (isa : InstructionSet) (text : List ℕ) → text_cut isa text ≡ too_long → BlocksAreOfLines isa text
reads_nothing isa text is = record {
  lines = [];
  read = rw is (record {
    said = tt;
    cycles = refl;
    whole = λ none. absurd cc;
    faulty = λ fault some. inr
        (at_number 0 _ fault some);
  });
  blocks = rw is (are_of_lines [] 1 no_drafts none_home);
}

short_text : (isa : InstructionSet) (text : List ℕ) → ltb MOST_BYTES (length text) ≡ false
    → text_cut isa text ≡ read_below isa [] no_drafts 1 (lines_of text)
unfolding text_cut
short_text isa text short = rw short refl

long_text : (isa : InstructionSet) (text : List ℕ) → ltb MOST_BYTES (length text) ≡ true → text_cut isa text ≡ too_long
unfolding text_cut
long_text isa text long = rw long refl

pub blocks_are_of_lines : (isa : InstructionSet) (text : List ℕ) → BlocksAreOfLines isa text
blocks_are_of_lines isa text = elim (cases_Bool (ltb MOST_BYTES (length text))) [
  | inl long ↦ reads_nothing isa text (long_text isa text long)
  | inr short ↦
      reads_to isa text (read_below isa [] no_drafts 1 (lines_of text)) (short_text isa text short)
      (read_all isa (lines_of text) [] 1 no_drafts (lines_of text)
      (record { said = tt; left = refl; counted = omega arith; home = none_home }))
]
