-- The blocks and the rows that are read of a text are of the same lines.
use Rattle.std.proofs.Common.{◌≡◌, ℕ, ◌+◌, ◌≤◌, false, ◌&&◌, ltb, List, [], ◌∷◌, length, Option, Some, None, Ok, Err}
use Rattle.std.proofs.Common.{refl, sym, ◌∙◌, ap, subst, inl, inr, arith}
use Rattle.std.specs.Prelude.{Result, is_none}
use Rattle.std.proofs.lemmas.Bool.{cases_Bool}
use Rattle.std.proofs.lemmas.Bool.Decides.{nat_tests}
use Rattle.c62_read.specs.Text.{lines_of}
use Rattle.c62_adopt_line.specs.declared.fault.LineFault.{LineFault}
use Rattle.c62_adopt_line.specs.Line.{Line, line_says}
use Rattle.c62_adopt_line.specs.Laws.{IsWhole}
use Rattle.c62_adopt_line.proofs.WholeLines.{line_whole}
use Rattle.c62_adopt_cut.specs.declared.fault.TextCause.{TextCause}
use Rattle.c62_adopt_cut.specs.Cut.{cycles_of, stand_of}
use Rattle.c62_adopt_cut.specs.Blocks.{Drafts, all_drafts, no_drafts, with_line}
use Rattle.c62_adopt_cut.specs.Text.{Cut, and_line, hindrance, judged, read_below, text_cut, unless_hindered}
use Rattle.c62_adopt_cut.specs.Home.{AreOfLines}
use Rattle.c62_adopt_cut.proofs.KeptLemmas.{IsFree, unhindered}
use Rattle.c62_adopt_cut.proofs.HomeLemmas.{AreHome, are_of_lines, line_home, none_home}
use Rattle.c62_rows.specs.Word.{Said, row_says}
use Rattle.c62_rows.specs.Reading.{Reading, no_reading, at_line, hindrance as row_hindrance, AddsLine, AddsSays}
use Rattle.c62_rows.specs.Text.{IsReading, LeadsTo}
use Rattle.c62_exec_back.proofs.Pauses.{line_lasts}
use Rattle.c62_exec_back.proofs.ReadRows.{AreRows}
use Rattle.c62_exec_back.proofs.RowLines.{line_steps, none_read}
use Rattle.c62_adopt_cut.specs.declared.text.TheConstants.{MOST_BYTES}
use Rattle.c62_op.specs.declared.set.InstructionSet.{InstructionSet}

-- what is read of lines by both
pub record AreBoth (cut : Cut) (reading : Reading) : Type 0 where
  pub lines : List Line
  pub drafts : Drafts
  pub all : cut.drafts ≡ all_drafts drafts
  pub cycles : cut.cycles ≡ cycles_of lines
  pub blocks : AreOfLines lines cut.drafts
  pub rows : AreRows lines drafts reading

-- a line that is one of packets by itself names no label for its word
says_itself : (isa : InstructionSet) (bytes : List ℕ) (line : Line) (said : Said) → line_says isa bytes ≡ Ok line
    → row_says isa bytes ≡ Ok said
    → record { line = line; word = None } ≡ said
unfolding row_says
says_itself isa bytes line said says is = grind (arith, (rw says at is))

open_row : (said : Said) (reading : Reading) → row_hindrance said reading ≡ None
    → (said.line.beside && is_none reading.current) ≡ false
unfolding row_hindrance
open_row said reading free = elim (cases_Bool (said.line.beside && is_none reading.current)) [
  | inl barred ↦ absurd (let no = rw barred at free in cc)
  | inr free_one ↦ free_one
]

module _ (isa : InstructionSet) (above : List Line) (number : ℕ) (drafts : Drafts) (bytes : List ℕ)
    (lines : List (List ℕ)) (old new : Reading)
    (home : AreHome above number drafts) (are : AreRows above drafts old)
    (leads : LeadsTo isa number old (bytes ∷ lines) new) (read : Line → Cut)
    (behind : (line : Line) (next : Reading)
    → AreHome (line ∷ above) (number + 1) (with_line number (stand_of above line) line drafts)
    → AreRows (line ∷ above) (with_line number (stand_of above line) line drafts) next
    → LeadsTo isa (number + 1) next lines new → (read line).fault ≡ None → AreBoth (read line) new) where
  goes_on : (line : Line) → line_says isa bytes ≡ Ok line → IsFree above drafts line → (read line).fault ≡ None
      → AreBoth (read line) new
  goes_on line says free none =
      let adds : AddsLine isa number bytes old leads.0 = leads.1 in
      let whole : IsWhole isa line = line_whole isa bytes line says in
      let same : record { line = line; word = None } ≡ adds.said =
      says_itself isa bytes line adds.said says adds.says in
      let row_free : row_hindrance (record { line = line; word = None }) old ≡ None = subst
      (λ (s : Said). row_hindrance s old ≡ None) (sym same) adds.free in
      let row_adds : AddsSays number None line.says (at_line line old) leads.0
      = subst (λ (s : Said). AddsSays number s.word s.line.says (at_line s.line old) leads.0) (sym same) adds.adds in
      behind line leads.0 (line_home isa above number drafts line whole free home)
      (line_steps above number drafts line.beside line.label old leads.0 are
      (open_row (record { line = line; word = None }) old row_free) whole.beside home.numbered line.says
      (line_lasts isa bytes line says) row_adds)
      leads.2 none

  hindered : (line : Line) → line_says isa bytes ≡ Ok line → (found : Option TextCause)
      → (found ≡ None → IsFree above drafts line)
      → (and_line above drafts number (unless_hindered found line) read).fault ≡ None
      → AreBoth (and_line above drafts number (unless_hindered found line) read) new
  hindered line says (Some cause) free none = absurd cc
  hindered line says None free none = goes_on line says (free refl) none

  said_both : (said : Result Line LineFault) → line_says isa bytes ≡ said
      → (and_line above drafts number (judged above drafts said) read).fault ≡ None
      → AreBoth (and_line above drafts number (judged above drafts said) read) new
  said_both (Err fault) is none = absurd cc
  said_both (Ok line) is none = hindered line is (hindrance above drafts line) (unhindered above drafts line) none

read_both : (isa : InstructionSet) (above : List Line) (number : ℕ) (drafts : Drafts) (bytes : List (List ℕ))
    (old new : Reading)
    → AreHome above number drafts → AreRows above drafts old
    → LeadsTo isa number old bytes new → (read_below isa above drafts number bytes).fault ≡ None
    → AreBoth (read_below isa above drafts number bytes) new
unfolding read_below
read_both isa above number drafts [] old new home are same none = record {
  lines = above;
  drafts = drafts;
  all = refl;
  cycles = refl;
  blocks = are_of_lines above number drafts home;
  rows = subst (AreRows above drafts) (sym same) are;
}
read_both isa above number drafts (bytes ∷ lines) old new home are leads none =
    said_both isa above number drafts bytes lines old new home are leads
    (λ line. read_below isa (line ∷ above) (with_line number (stand_of above line) line drafts) (number + 1) lines)
    (λ line next more rows rest fine. read_both isa (line ∷ above) (number + 1)
    (with_line number (stand_of above line) line drafts) lines next new more rows rest fine)
    (line_says isa bytes) refl none

short_text : (isa : InstructionSet) (text : List ℕ) → ltb MOST_BYTES (length text) ≡ false
    → text_cut isa text ≡ read_below isa [] no_drafts 1 (lines_of text)
unfolding text_cut
short_text isa text short = rw short refl

pub text_both : (isa : InstructionSet) (text : List ℕ) (reading : Reading) → IsReading isa text reading
    → (text_cut isa text).fault ≡ None
    → AreBoth (text_cut isa text) reading
text_both isa text reading is none =
    let few : length text ≤ MOST_BYTES = is.short in
    let short : ltb MOST_BYTES (length text) ≡ false = grind (arith, nat_tests, few) in
    let same : text_cut isa text ≡ read_below isa [] no_drafts 1 (lines_of text) = short_text isa text short in
    subst (λ (cut : Cut). AreBoth cut reading) (sym same)
    (read_both isa [] 1 no_drafts (lines_of text) no_reading reading none_home none_read is.leads
    (ap (λ (cut : Cut). cut.fault) (sym same) ∙ none))
