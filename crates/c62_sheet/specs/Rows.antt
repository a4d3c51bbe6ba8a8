-- The rows of a set of placements: what is taken in each cycle.
use Rattle.std.specs.Prelude.{ℕ, ◌+◌, ◌*◌, ◌<◌, ◌≤◌, List, length, slice_index_or, IsTrue}
use Rattle.c62_op.specs.declared.register.Unit.{Unit as FunctionalUnit}
use Rattle.c62_insn.specs.declared.insn.Insn.{Insn}
use Rattle.c62_insn.specs.declared.unit_set.UnitSet.{UnitSet}
use Rattle.c62_insn.specs.UnitSet.{unit_in}
use Rattle.c62_row.specs.declared.row.Row.{Row}
use Rattle.c62_rules.specs.Resource.{taken_by}
use Rattle.c62_row.specs.Fields.{EachPlace, times_at}
use Rattle.c62_row.specs.Row.{row_at}
use Rattle.c62_row.specs.Issued.{IsRowOf}
use Rattle.c62_sheet.specs.Lawful.{Spots, issues}

-- the row of each cycle of a block is that of its placed instructions
pub record AreRows (block : List Insn) (set : Spots) (rows : List Row) : Type 0 where
  pub sized : 5 * length block ≤ length rows
  pub each : (cycle : ℕ) (row : Row) → cycle < length rows → IsRowOf (slice_index_or rows cycle row) cycle (issues block set)

-- the unit is one of these, and the row has room for the instruction on it
pub record FitsRow (row : Row) (units : UnitSet) (insn : Insn) (unit : FunctionalUnit) : Type 0 where
  pub stands : IsTrue (unit_in units unit)
  pub free : EachPlace (λ place. row_at row place + times_at place (taken_by insn unit) < 8)
