use Rattle.c62_sheet.proofs.Common.{arith, insns_of}
use Rattle.c62_sheet.proofs.RowsOf.{rows_of_nothing}
use Rattle.c62_sheet.proofs.rows.free_all.Goals as goal

pub returns : goal.returns
returns c =
    rows_of_nothing (insns_of c.args.plan.now) c.loop-row.rows (omega (arith, c.requires, c.loop-row.auto.rows))
    (λ cycle row lt. c.loop-row.invariant cycle row (omega (arith, lt, c.loop-row.auto.rows, c.loop-row-test.false)))
