-- Courses: a plan, and the entries that were played on it from nothing.
use Rattle.std.specs.Prelude.{◌≡◌, ℕ, ◌++◌, List, [], ◌∷◌, length}
use mathlib.Core.List.{IsPrefix}
use Rattle.logbook.specs.Pages.{Book}
use Rattle.c62_op.specs.declared.register.Side.{Side}
use Rattle.c62_insn.specs.declared.insn.Insn.{Insn}
use Rattle.c62_read.specs.Block.{Serial}
use Rattle.c62_depend.specs.Plan.{insns_of}
use Rattle.c62_sheet.specs.declared.entry.Entry.{Entry}
use Rattle.c62_sheet.specs.declared.entry.Spot.{Spot}
use Rattle.c62_sheet.specs.Lawful.{Spots}
use Rattle.c62_sheet.specs.Least.{IsPick, IsLeast}
use Rattle.c62_sheet.specs.Journal.{replayed, IsLegal}
use Rattle.c62_board.specs.State.{nothing_of}
use Rattle.c62_view.specs.Past.{Past}

abbrev pub Course : Type 0
Course = Serial × List Entry

-- the instructions of the plan
abbrev pub block_of : Course → List Insn
block_of c = insns_of c.0

-- what the entries leave
abbrev pub left_by : Course → Spots
left_by c = replayed (nothing_of c.0) c.1

abbrev pub IsLegalCourse : Course → Type 0
IsLegalCourse c = IsLegal (insns_of c.0) (nothing_of c.0) c.1

-- a course of the desk with this book
abbrev pub Tale : Type 0
Tale = Book × Course

-- the first goes on from the second
pub record GoesOn (t k : Tale) : Type 0 where
  pub book : t.0 ≡ k.0
  pub plan : t.1.0 ≡ k.1.0
  pub entries : IsPrefix k.1.1 t.1.1

-- it goes on from each
abbrev pub GoesOnFrom : Tale → List Tale → Type 0
GoesOnFrom t [] = Unit {0}
GoesOnFrom t (k ∷ ks) = GoesOn t k × GoesOnFrom t ks

-- what a batch adds
abbrev pub gone_on : Course → List Entry → Course
gone_on c es = (c.0, c.1 ++ es)

-- a version: its placements, its entries, and a beginning of the history
pub record Version : Type 0 where
  pub plan : Serial
  pub spots : Spots
  pub entries : List Entry
  pub past : Past

abbrev pub course : Version → Course
course x = (x.plan, x.entries)

abbrev pub tale : Version → Tale
tale x = (x.past.book, course x)

-- what both copies have in common
abbrev pub held : Version → Course × Past
held x = (course x, x.past)

-- the pick of a side and its least spot, after the entries of a course
pub record IsPlanned (c : Course) (of : Side) (number : ℕ) (spot : Spot) (count : ℕ) : Type 0 where
  pub pick : IsPick (block_of c) (left_by c) of number
  pub least : IsLeast (block_of c) (left_by c) number spot
  pub seen : count ≡ length c.1
