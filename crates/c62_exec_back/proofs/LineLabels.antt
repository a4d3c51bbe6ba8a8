-- The lines of a text, and the labels that they give and name.
use Rattle.std.proofs.Common.{◌≡◌, ℕ, ◌+◌, true, ◌||◌, List, [], ◌∷◌, ◌++◌, Option, Some, None, Ok, Err, refl, sym, ◌∙◌}
use Rattle.std.proofs.Common.{ap, inl, inr, arith}
use Rattle.std.specs.Prelude.{Result, map, is_none}
use Rattle.std.specs.List.{list_any}
use Rattle.std.specs.Map.{keys_of}
use Rattle.std.specs.Option.{option_to_list}
use Rattle.std.specs.Str.{bytes_eq}
use Rattle.std.proofs.lemmas.Bool.{cases_Bool}
use Rattle.std.proofs.lemmas.Bool.Decides.{nat_tests}
use Rattle.std.proofs.lemmas.Cmp.{nat_list_eq_equiv}
use Rattle.std.proofs.lemmas.Slice.Eq.{bytes_eq-Decides}
use Rattle.c62_read.specs.Program.{Name, label_is}
use Rattle.c62_adopt_line.specs.declared.fault.LineFault.{LineFault}
use Rattle.c62_adopt_line.specs.Line.{Line, line_says}
use Rattle.c62_adopt_line.proofs.WholeLines.{line_whole}
use Rattle.c62_adopt_cut.specs.declared.fault.TextCause.{TextCause}
use Rattle.c62_adopt_cut.specs.Blocks.{Draft, Drafts, with_line}
use Rattle.c62_adopt_cut.specs.Cut.{Place, cycles_of, stand_of}
use Rattle.c62_adopt_cut.specs.Home.{AreOfLines, Home, home, homes_in}
use Rattle.c62_adopt_cut.specs.Laws.{labels_given}
use Rattle.c62_adopt_cut.specs.Text.{Cut, and_line, hindrance, judged, read_below, unless_hindered}
use Rattle.c62_adopt_cut.proofs.HomeLemmas.{AreHome, are_of_lines, line_home}
use Rattle.c62_adopt_cut.proofs.KeptLemmas.{IsFree, unhindered}
use Rattle.c62_meaning.proofs.Lookup.{In, In-append_left}
use Rattle.c62_flight.specs.Text.{Row}
use Rattle.c62_exec_back.proofs.ReadRows.{IsOpen, labelled, labelled_by, begun_in}
use Rattle.c62_op.specs.declared.set.InstructionSet.{InstructionSet}

-- ---- all lines of a text

abbrev pub with_said : Result Line LineFault → List Line → List Line
with_said (Ok line) above = line ∷ above
with_said (Err fault) above = above

-- what these lines say below others, the last first
abbrev pub all_lines : InstructionSet → List Line → List (List ℕ) → List Line
all_lines isa above [] = above
all_lines isa above (bytes ∷ lines) = all_lines isa (with_said (line_says isa bytes) above) lines

said_has : (said : Result Line LineFault) (above : List Line) (h : Home) → In h (homes_in above)
    → In h (homes_in (with_said said above))
said_has (Ok line) above h there = In-append_left h (homes_in above) _ there
said_has (Err fault) above h there = there

pub all_have : (isa : InstructionSet) (above : List Line) (lines : List (List ℕ)) (h : Home) → In h (homes_in above)
    → In h (homes_in (all_lines isa above lines))
all_have isa above [] h there = there
all_have isa above (bytes ∷ lines) h there = all_have isa (with_said (line_says isa bytes) above) lines h
    (said_has (line_says isa bytes) above h there)

-- the blocks that are read below are theirs
pub record AreTheirs (lines : List Line) (cut : Cut) : Type 0 where
  pub blocks : AreOfLines lines cut.drafts
  pub cycles : cut.cycles ≡ cycles_of lines

module _ (isa : InstructionSet) (above : List Line) (number : ℕ) (drafts : Drafts) (bytes : List ℕ)
    (lines : List (List ℕ))
    (home : AreHome above number drafts) (read : Line → Cut)
    (behind : (line : Line) → AreHome (line ∷ above) (number + 1) (with_line number (stand_of above line) line drafts)
    → (read line).fault ≡ None → AreTheirs (all_lines isa (line ∷ above) lines) (read line)) where
  hindered_theirs : (line : Line) → line_says isa bytes ≡ Ok line → (found : Option TextCause)
      → (found ≡ None → IsFree above drafts line)
      → (and_line above drafts number (unless_hindered found line) read).fault ≡ None
      → AreTheirs (all_lines isa (line ∷ above) lines)
      (and_line above drafts number (unless_hindered found line) read)
  hindered_theirs line says (Some cause) free none = absurd cc
  hindered_theirs line says None free none = behind line
      (line_home isa above number drafts line (line_whole isa bytes line says) (free refl) home) none

  said_theirs : (said : Result Line LineFault) → line_says isa bytes ≡ said
      → (and_line above drafts number (judged above drafts said) read).fault ≡ None
      → AreTheirs (all_lines isa (with_said said above) lines)
      (and_line above drafts number (judged above drafts said) read)
  said_theirs (Err fault) is none = absurd cc
  said_theirs (Ok line) is none = hindered_theirs line is (hindrance above drafts line) (unhindered above drafts line)
      none

pub read_theirs : (isa : InstructionSet) (above : List Line) (number : ℕ) (drafts : Drafts) (lines : List (List ℕ))
    → AreHome above number drafts → (read_below isa above drafts number lines).fault ≡ None
    → AreTheirs (all_lines isa above lines) (read_below isa above drafts number lines)
unfolding read_below
read_theirs isa above number drafts [] home none =
    record { blocks = are_of_lines above number drafts home; cycles = refl }
read_theirs isa above number drafts (bytes ∷ lines) home none =
    said_theirs isa above number drafts bytes lines home
    (λ line. read_below isa (line ∷ above) (with_line number (stand_of above line) line drafts) (number + 1) lines)
    (λ line more fine. read_theirs isa (line ∷ above) (number + 1) (with_line number (stand_of above line) line drafts)
    lines more fine)
    (line_says isa bytes) refl none

-- ---- names

names_given : (drafts : List Draft) → keys_of (labelled drafts) ≡ labels_given drafts
names_given [] = refl
names_given (draft ∷ drafts) = by draft.label (names_given drafts)
  where
    by : (label : Option Name) → keys_of (labelled drafts) ≡ labels_given drafts
        → keys_of (labelled_by label draft.start ++ labelled drafts) ≡ option_to_list label ++ labels_given drafts
    by None rest = rest
    by (Some name) rest = ap (λ (names : List Name). name ∷ names) rest

names_begun : (rows : List Row) (labels : List (Name × ℕ)) → keys_of (map (begun_in rows) labels) ≡ keys_of labels
names_begun rows [] = refl
names_begun rows (label ∷ labels) = ap (λ (names : List Name). label.0 ∷ names) (names_begun rows labels)

-- the labels of the rows are those of the blocks
pub same_names : (drafts : List Draft) (rows : List Row) (labels : List (Name × ℕ))
    → labelled drafts ≡ map (begun_in rows) labels → keys_of labels ≡ labels_given drafts
same_names drafts rows labels same = sym (names_begun rows labels) ∙ ap keys_of (sym same) ∙ names_given drafts

pub label_any : (label : Name) (drafts : List Draft)
    → list_any (λ draft. label_is label draft.label) drafts ≡ list_any (bytes_eq label) (labels_given drafts)
label_any label [] = refl
label_any label (draft ∷ drafts) = by draft.label (label_any label drafts)
  where
    by : (given : Option Name)
        → list_any (λ d. label_is label d.label) drafts ≡ list_any (bytes_eq label) (labels_given drafts)
        → (label_is label given || list_any (λ d. label_is label d.label) drafts) ≡ list_any (bytes_eq label)
        (option_to_list given ++ labels_given drafts)
    by None rest = rest
    by (Some name) rest = rw (rest, sym (nat_list_eq_equiv.symm label name)) refl

pub named_in : (label : Name) (names : List Name) → list_any (bytes_eq label) names ≡ true → In label names
named_in label [] e = absurd cc
named_in label (name ∷ names) e = elim (cases_Bool (bytes_eq label name)) [
  | inl here ↦ inl (sym ((bytes_eq-Decides label name).0 here))
  | inr other ↦ inr (named_in label names (rw other at e))
]

pub in_named : (label : Name) (names : List Name) → In label names → list_any (bytes_eq label) names ≡ true
in_named label [] h = absurd h
in_named label (name ∷ names) (inl e) = let here : bytes_eq label name ≡ true = (bytes_eq-Decides label name).1 (sym e)
    in rw here refl
in_named label (name ∷ names) (inr h) = let rest = in_named label names h in grind (arith, nat_tests, rest)

pub open_alike : (done : List Row) (current : Option Row) (place : Option Place) → IsOpen done current place
    → is_none current ≡ is_none place
open_alike done None None is = refl
open_alike done (Some row) (Some place) is = refl
open_alike done None (Some place) is = absurd is
open_alike done (Some row) None is = absurd is
