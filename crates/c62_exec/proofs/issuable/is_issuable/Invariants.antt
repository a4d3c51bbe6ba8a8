use Rattle.std.proofs.Common.{ℕ, ◌<◌, get_or}
use Rattle.c62_rows.specs.declared.rows.Row.{Row}
use Rattle.c62_exec.specs.Ground.{IsFine}
use Rattle.c62_exec.proofs.issuable.is_issuable.Given as goal

abbrev pub invariant-loop-row : goal.invariant-loop-row
invariant-loop-row l = (k : ℕ) (d : Row) → k < l.row-index → IsFine (get_or l.row-items k d)
