use Rattle.c62_rows.specs.Rows.{row_read}
use Rattle.c62_modulo.specs.Made.{IsLawful}
use Rattle.c62_modulo.proofs.Orders.{one_more}
use Rattle.c62_modulo.proofs.lawful.are_lawful.Goals as goal

pub loop-row-preserved : goal.loop-row-preserved
loop-row-preserved c =
    one_more (λ row. IsLawful (row_read row)) c.args.rows.now c.loop-row.row-index c.row-item.result
    c.loop-row-test.true c.row-item.is c.if-not-is_lawful.ensures
    c.loop-row.invariant
