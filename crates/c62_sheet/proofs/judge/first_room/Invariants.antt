use Rattle.c62_sheet.proofs.Common.{ℕ, ◌<◌, ◌≤◌, Row, slice_index_or}
use Rattle.c62_row.specs.Row.{Fits}
use Rattle.c62_sheet.proofs.judge.first_room.Given as goal

abbrev pub invariant-loop-cycle : goal.invariant-loop-cycle
invariant-loop-cycle l =
    (l.first ≤ l.cycle) × ((cycle : ℕ) (row : Row) → l.first ≤ cycle → cycle < l.cycle
    → Fits (slice_index_or l.rows cycle row) l.uses → ⊥)
