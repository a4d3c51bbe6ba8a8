use Rattle.std.proofs.Common.{arith}
use Rattle.c62_rows.specs.Worded.{IsWorded}
use Rattle.c62_rows.proofs.Worded.{all_worded, one_done}
use Rattle.c62_rows.proofs.half.set_in_row.Goals as goal

pub loop-one-preserved : goal.loop-one-preserved
loop-one-preserved c =
    one_done (IsWorded c.args.words.now.entries c.args.labels.now.entries) c.args.placed.now c.loop-one.placed
    c.loop-one.one-index c.worded.result
    c.loop-one.invariant (omega (arith, c.loop-one-test.true, c.loop-one.invariant.same)) c.one-item.result
    c.worded.ensures

pub returns : goal.returns
returns c =
    all_worded c.args.words.now.entries c.args.labels.now.entries c.args.placed.now c.loop-one.placed
    c.loop-one.one-index c.loop-one.invariant
    c.loop-one-test.false
