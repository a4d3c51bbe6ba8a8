use Rattle.std.proofs.Common.{arith, ◌≡◌, ◌≤◌, ◌+◌, length, refl}
use Rattle.c62_read.specs.declared.limits.TheConstants.{MOST_INSTRUCTIONS}
use Rattle.c62_why.proofs.Uses.{used_next, used_all}
use Rattle.c62_why.proofs.taken.used.Goals as goal

pub overflow_add-sum : goal.overflow_add-sum
overflow_add-sum c =
    let sum = c.loop-each.invariant.few in
    let one = c.uses_at-sum.ensures.few in
    omega (arith, c.requires, c.loop-each-test.true, sum, one)

pub loop-each-preserved : goal.loop-each-preserved
loop-each-preserved c =
    let sum = c.loop-each.invariant.few in
    let one = c.uses_at-sum.ensures.few in
    let next = used_next c.args.resource c.args.cycle c.args.placed.now c.loop-each.each-index c.each-item.result
    c.loop-each.sum c.loop-each-test.true c.each-item.is
    c.loop-each.invariant.rest in
    record { rest = rw c.uses_at-sum.ensures.uses next; few = omega (arith, sum, one) }

pub returns-clause-used : goal.returns-clause-used
returns-clause-used c =
    used_all c.args.resource c.args.cycle c.args.placed.now c.loop-each.each-index c.loop-each.sum
    (omega (arith, c.loop-each-test.false)) c.loop-each.invariant.rest

pub returns-clause-few : goal.returns-clause-few
returns-clause-few c =
    let sum = c.loop-each.invariant.few in
    let end = c.loop-each.auto.each-index-end in
    omega (arith, c.requires, sum, end)
