-- The least spot, found unit by unit (docs/SCHEDULING.md, "Least spot").
use Rattle.std.specs.Prelude.{ℕ, ◌<◌, ◌≤◌, List, slice_index_or, Option, MatchOption}
use Rattle.c62_op.specs.declared.register.Unit.{Unit as FunctionalUnit}
use Rattle.c62_op.specs.Units.{index_of}
use Rattle.c62_insn.specs.declared.insn.Insn.{Insn}
use Rattle.c62_row.specs.declared.row.Row.{Row}
use Rattle.c62_row.specs.declared.row.Uses.{Uses}
use Rattle.c62_row.specs.Row.{Fits}
use Rattle.c62_sheet.specs.declared.entry.Spot.{Spot}
use Rattle.c62_sheet.specs.Lawful.{Spots, placed, IsLawful}
use Rattle.c62_sheet.specs.Least.{Precedes}

-- the first of these cycles whose row has room for so much, and their end where none has
pub record IsFirstRoom (rows : List Row) (uses : Uses) (first end found : ℕ) : Type 0 where
  pub within : found ≤ end
  pub passed : (cycle : ℕ) (row : Row) → first ≤ cycle → cycle < found → Fits (slice_index_or rows cycle row) uses → ⊥
  pub behind : found < end → first ≤ found
  pub room : (row : Row) → found < end → Fits (slice_index_or rows found row) uses

abbrev pub spot_on : ℕ → FunctionalUnit → Spot
spot_on cycle unit = record { cycle = cycle; unit = unit }

-- the first cycle at which adding i on a unit leaves the set lawful, and the end where there is none below it
pub record IsFirstOn (block : List Insn) (set : Spots) (i : ℕ) (unit : FunctionalUnit) (end found : ℕ) : Type 0 where
  pub within : found ≤ end
  pub passed : (cycle : ℕ) → cycle < found → IsLawful block (placed set i (spot_on cycle unit)) → ⊥
  pub lawful : found < end → IsLawful block (placed set i (spot_on found unit))

-- the least spot among those on the first units
pub record IsLeastAmong (block : List Insn) (set : Spots) (i count : ℕ) (s : Spot) : Type 0 where
  pub among : index_of s.unit < count
  pub lawful : IsLawful block (placed set i s)
  pub first : (t : Spot) → index_of t.unit < count → IsLawful block (placed set i t) → Precedes s t

abbrev pub HasNoSpotAmong : List Insn → Spots → ℕ → ℕ → Type 0
HasNoSpotAmong block set i count = (t : Spot) → index_of t.unit < count → IsLawful block (placed set i t) → ⊥

-- the same, or that there is none
abbrev pub FindsLeastAmong : List Insn → Spots → ℕ → ℕ → Option Spot → Type 0
FindsLeastAmong block set i count found = MatchOption found (HasNoSpotAmong block set i count) (IsLeastAmong block set i count)
