use Rattle.c62_sheet.proofs.Common.{ℕ, ◌<◌, Row, IsUnused, slice_index_or}
use Rattle.c62_sheet.proofs.rows.free_all.Given as goal

abbrev pub invariant-loop-row : goal.invariant-loop-row
invariant-loop-row l = (k : ℕ) (row : Row) → k < l.row-index → IsUnused (slice_index_or l.rows k row)
