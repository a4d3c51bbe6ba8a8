use Rattle.std.proofs.Common.{arith, ◌≡◌, length, sym}
use Rattle.c62_check_loop.specs.Relined.{row_unlined}
use Rattle.c62_rows.specs.Rows.{row_read}
use Rattle.c62_check_loop.proofs.Relining.{alike_more, alike_whole}
use Rattle.c62_check_loop.proofs.relined.are_same_rows.Goals as goal

pub loop-number-preserved : goal.loop-number-preserved
loop-number-preserved c =
    let same : length c.args.rows.now ≡ length c.args.others.now = c.if-rows-others.false in
    alike_more (λ row. row_unlined (row_read row)) c.args.rows.now c.args.others.now c.loop-number.number
    c.index-rows-number.result c.index-others-number.result c.loop-number-test.true
    (omega (arith, same, c.loop-number-test.true))
    c.index-rows-number.is c.index-others-number.is c.if-not-is_same_row.ensures c.loop-number.invariant

pub returns : goal.returns
returns c = alike_whole (λ row. row_unlined (row_read row)) c.args.rows.now c.args.others.now
    (sym c.if-rows-others.false)
    (λ k d e l. c.loop-number.invariant k d e (omega (arith, l, c.loop-number-test.false)))
