use Rattle.c62_loop_match.proofs.Counting.{onward_first, onward_next, onward_all}
use Rattle.c62_loop_match.proofs.steering.count_all.Goals as goal

pub loop-each-init : goal.loop-each-init
loop-each-init c = onward_first c.args.rule c.args.from c.args.placed.now

pub loop-each-preserved : goal.loop-each-preserved
loop-each-preserved c =
    onward_next c.args.rule c.args.from c.loop-each.count c.in_ok-count.count c.args.placed.now c.loop-each.each-index
    c.each-item.result c.loop-each-test.true c.each-item.is c.in_ok-count.ensures
    c.loop-each.invariant

pub returns : goal.returns
returns c = onward_all c.args.rule c.args.from c.loop-each.count c.args.placed.now c.loop-each.each-index
    c.loop-each-test.false c.loop-each.invariant
