use Rattle.c62_check_loop.specs.Relined.{row_unlined}
use Rattle.c62_rows.specs.Rows.{row_read}
use Rattle.c62_check_loop.proofs.Relining.{AreAlike}
use Rattle.c62_check_loop.proofs.relined.are_same_rows.Given as goal

abbrev pub invariant-loop-number : goal.invariant-loop-number
invariant-loop-number l = AreAlike (λ row. row_unlined (row_read row)) l.rows l.others l.number
