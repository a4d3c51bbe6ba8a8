use Rattle.std.proofs.Common.{◌≡◌, map, take}
use Rattle.c62_rows.specs.Rows.{row_read}
use Rattle.c62_check_loop.proofs.copied.rows_copied.Given as goal

abbrev pub invariant-loop-row : goal.invariant-loop-row
invariant-loop-row l = map row_read l.copies.items ≡ map row_read (take l.row-index l.rows)
