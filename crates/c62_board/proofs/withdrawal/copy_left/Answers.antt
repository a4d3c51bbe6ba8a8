use Rattle.std.proofs.Common.{arith, ◌≡◌, length, ap, ◌∙◌}
use Rattle.c62_read.specs.Block.{Serial}
use Rattle.c62_depend.specs.Plan.{insns_of}
use Rattle.c62_depend.proofs.Plans.{many_insns}
use Rattle.c62_board.proofs.LeftSpots.{copy_one, copy_is_left}
use Rattle.c62_board.proofs.withdrawal.copy_left.Goals as goal

pub loop-k-preserved : goal.loop-k-preserved
loop-k-preserved c =
    let all : c.len-k-end.result ≡ length c.args.sheet.now.plan.insns = c.len-k-end.ensures.len
    ∙ ap (λ (plan : Serial). length plan.insns) c.plan.ensures.plan in
    copy_one c.args.marks.now c.args.sheet.now.spots c.loop-k.rest c.loop-k.k c.spot_left.result c.spot_left.ensures
    (omega (arith, c.loop-k.auto.rest, c.requires.room, c.loop-k-test.true, all)) c.loop-k.invariant

pub returns : goal.returns
returns c = λ who.
    let block = insns_of c.args.sheet.now.plan in
    let all = many_insns c.args.sheet.now.plan.insns in
    let end : c.len-k-end.result ≡ length c.args.sheet.now.plan.insns = c.len-k-end.ensures.len
    ∙ ap (λ (plan : Serial). length plan.insns) c.plan.ensures.plan in
    rw (← all) (copy_is_left block c.args.sheet.now.spots c.loop-k.rest c.args.i who c.args.marks.now
    c.plan.ensures.lawful c.requires.marked
    (omega (arith, all, c.requires.room, c.loop-k.auto.rest))
    (λ k lt. c.loop-k.invariant k (omega (arith, lt, all, c.loop-k-test.false, end))))
