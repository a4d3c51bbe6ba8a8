-- Which block an instruction of a text stands in, told from the lines above it (docs/ADOPT.md, "Blocks"): the block that the last
-- cut at or above it begins, with the label that stands there, where one does.
use Rattle.std.specs.Prelude.{◌≡◌, ◌⊎◌, ℕ, ◌+◌, ◌≤◌, Bool, ◌==◌, ◌||◌, if◌then◌else◌, List, [], ◌∷◌, ◌++◌, length, map, slice_get, Option, Some, None, option_map, Ok, IsTrue}
use Rattle.std.specs.List.{AllByRecursion, flat_map, list_any}
use Rattle.std.specs.List.Sorted.{IsNonDecreasing}
use Rattle.std.specs.Option.{option_to_list}
use Rattle.c62_line.specs.Line.{Says, Does, Jumps}
use Rattle.c62_read.specs.Program.{Name}
use Rattle.c62_read.specs.Text.{lines_of}
use Rattle.c62_adopt_line.specs.Line.{Line, line_says}
use Rattle.c62_adopt_cut.specs.declared.clock.Stand.{Stand}
use Rattle.c62_adopt_cut.specs.Cut.{cycles_of, cuts_of, stand_of}
use Rattle.c62_adopt_cut.specs.Blocks.{Issue, Draft, issue_at}
use Rattle.c62_adopt_cut.specs.Text.{Cut, Refusal, text_cut}
use Rattle.c62_adopt_cut.specs.Laws.{labels_given}
use Rattle.c62_op.specs.declared.set.InstructionSet.{InstructionSet}

-- ---- the lines of a text

-- line by line these are what the lines of a text say by themselves, the last first
abbrev pub AreSaid : InstructionSet → List (List ℕ) → List Line → Type 0
AreSaid isa texts [] = Unit {0}
AreSaid isa texts (line ∷ above) = (option_map (line_says isa) (slice_get texts (length above)) ≡ Some (Ok line)) × AreSaid isa texts above

-- A text is read as far as these lines: it has no more, or the next one is its first with a fault. One that is too long has its
-- fault in line 0.
pub record IsReadTo (isa : InstructionSet) (text : List ℕ) (lines : List Line) (cut : Cut) : Type 0 where
  pub said : AreSaid isa (lines_of text) lines
  pub cycles : cut.cycles ≡ cycles_of lines
  pub whole : cut.fault ≡ None → length lines ≡ length (lines_of text)
  pub faulty : (fault : Refusal) → cut.fault ≡ Some fault → (fault.0 ≡ length lines + 1) ⊎ (fault.0 ≡ 0)

-- ---- where an instruction stands

abbrev pub label_at : ℕ → Option Name → ℕ → Option Name → Option Name
label_at start None cycle label_above = label_above
label_at start (Some label) cycle label_above = if cycle == start then Some label else None

-- the last label of these lines, where it stands in this cycle
abbrev pub label_in : ℕ → List Line → Option Name
label_in start [] = None
label_in start (line ∷ above) = label_at start line.label (cycles_of above) (label_in start above)

-- an instruction with the label of its block and the cycle of the text in which that begins
pub record Home : Type 0 where
  pub label : Option Name
  pub start : ℕ
  pub issue : Issue

abbrev pub home : Option Name → ℕ → Issue → Home
home label start issue = record { label = label; start = start; issue = issue }

-- what stands here, in a block of this label
abbrev pub home_said : ℕ → Stand → Option Name → Says → List Home
home_said number stand label (Does parts) = home label stand.start (issue_at stand number parts None) ∷ []
home_said number stand label (Jumps parts target) = home label stand.start (issue_at stand number parts (Some target)) ∷ []
home_said number stand label _ = []

-- the instruction of a line, if it has one
abbrev pub home_in : List Line → Line → List Home
home_in above line = home_said (length above + 1) (stand_of above line) (label_in (stand_of above line).start (line ∷ above)) line.says

-- the instructions of lines, in the order of these
abbrev pub homes_in : List Line → List Home
homes_in [] = []
homes_in (line ∷ above) = homes_in above ++ home_in above line

-- the labels of lines, in the order of these
abbrev pub labels_in : List Line → List Name
labels_in [] = []
labels_in (line ∷ above) = labels_in above ++ option_to_list line.label

-- ---- the blocks have them so

-- the instructions of a block
abbrev pub homes_of : Draft → List Home
homes_of draft = map (home draft.label draft.start) draft.issues

-- the text's beginning, or a cycle in which it is cut
abbrev pub is_cut : List Line → ℕ → Bool
is_cut lines cycle = cycle == 0 || list_any (λ cut. cut == cycle) (cuts_of lines)

-- where blocks begin
abbrev pub starts_of : List Draft → List ℕ
starts_of drafts = map (λ draft. draft.start) drafts

-- The instructions of the blocks are those of the lines, in the order of these: each stands in one block, which is the one that
-- its line tells. The labels of the blocks are those of the lines. Blocks begin where a cut is, none before another above it, and
-- none behind the last cycle.
pub record AreOfLines (lines : List Line) (drafts : List Draft) : Type 0 where
  pub instructions : flat_map homes_of drafts ≡ homes_in lines
  pub labels : labels_given drafts ≡ labels_in lines
  pub cuts : AllByRecursion (λ start. IsTrue (is_cut lines start)) (starts_of drafts)
  pub rising : IsNonDecreasing (starts_of drafts)
  pub early : AllByRecursion (λ start. start ≤ cycles_of lines) (starts_of drafts)

-- so it is of what is read of a text
pub record BlocksAreOfLines (isa : InstructionSet) (text : List ℕ) : Type 0 where
  pub lines : List Line
  pub read : IsReadTo isa text lines (text_cut isa text)
  pub blocks : AreOfLines lines (text_cut isa text).drafts
