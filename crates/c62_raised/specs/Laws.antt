-- Laws of raised heights, in the words of the rules.
use Rattle.std.specs.Prelude.{◌≡◌, ℕ, ◌<◌, ◌≤◌, List, length}
use Rattle.c62_op.specs.declared.register.Side.{Side}
use Rattle.c62_insn.specs.declared.insn.Insn.{Insn}
use Rattle.c62_depend.specs.Plan.{IsPlan}
use Rattle.c62_sheet.specs.declared.entry.Spot.{Spot}
use Rattle.c62_sheet.specs.Lawful.{Spots, IsAt, IsLawful}
use Rattle.c62_sheet.specs.Least.{IsComplete}
use Rattle.c62_sheet.specs.Counts.{set_length}
use Rattle.c62_bound.specs.Laws.{IsSeated, IsNoShorter}
use Rattle.c62_bound.specs.Length.{IsLeastLength}
use Rattle.c62_raised.specs.Room.{CrossesTo}
use Rattle.c62_raised.specs.Raised.{IsRaisedLength}

-- each instruction of a block has a cycle and a unit so, and no two go over one cross path in a cycle
pub record IsSeatedAcross (block : List Insn) (set : Spots) (cycles : ℕ) : Type 0 where
  pub seated : IsSeated block set cycles
  pub each_cross : (side : Side) (i j : ℕ) (s t : Spot) → i < length block → j < length block → IsAt set i s → IsAt set j t → s.cycle ≡ t.cycle
      → CrossesTo block side i → CrossesTo block side j → i ≡ j

-- so many cycles are at least those of the critical path and of each need, and the raised bound
pub record IsLongEnough (block : List Insn) (cycles : ℕ) : Type 0 where
  pub needs : IsNoShorter block cycles
  pub raised : (least : ℕ) → IsRaisedLength block least → least ≤ cycles

-- none of these takes fewer cycles
abbrev pub RaisedBoundHolds : List Insn → Type 0
RaisedBoundHolds block = (set : Spots) (cycles : ℕ) → IsPlan block → IsSeatedAcross block set cycles → IsLongEnough block cycles

-- lawful schedules that place all are among them
abbrev pub SchedulesAreSeatedAcross : List Insn → Type 0
SchedulesAreSeatedAcross block = (set : Spots) → IsPlan block → IsLawful block set → IsComplete block set → IsSeatedAcross block set (set_length block set)

-- the raised bound is at least the least length
abbrev pub IsSharper : List Insn → Type 0
IsSharper block = (least cycles : ℕ) → IsLeastLength block least → IsRaisedLength block cycles → least ≤ cycles

-- a block has one raised bound
abbrev pub HasOneRaisedLength : List Insn → Type 0
HasOneRaisedLength block = (a b : ℕ) → IsRaisedLength block a → IsRaisedLength block b → a ≡ b
