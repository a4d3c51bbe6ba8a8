use Rattle.c62_sheet.proofs.Common.{arith, ℕ, ap, insns_of, length}
use Rattle.c62_sheet.proofs.Counting.{ready_count, ready_few}
use Rattle.c62_sheet.proofs.counts.count_ready.Goals as goal

pub overflow_cast-result : goal.overflow_cast-result
overflow_cast-result c =
    let few = ready_few (insns_of c.args.plan.now) c.args.spots.now c.args.lists.now c.args.of c.requires.ready in
    let long = ap (length {A = ℕ}) c.of.ensures in
    omega (arith, few, long, c.len.ensures.sound.few)

pub returns : goal.returns
returns c = rw c.of.ensures
    (ready_count (insns_of c.args.plan.now) c.args.spots.now c.args.lists.now c.args.of c.requires.ready)
