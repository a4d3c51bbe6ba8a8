use Rattle.std.proofs.Common.{ℕ, ◌<◌, get_or}
use Rattle.c62_rows.specs.declared.rows.Row.{Row}
use Rattle.c62_rows.specs.Rows.{row_read}
use Rattle.c62_modulo.specs.Made.{IsLawful}
use Rattle.c62_modulo.proofs.lawful.are_lawful.Given as goal

abbrev pub invariant-loop-row : goal.invariant-loop-row
invariant-loop-row l = (k : ℕ) (d : Row) → k < l.row-index → IsLawful (row_read (get_or l.rows k d))
