use Rattle.std.proofs.Common.{arith, ◌≡◌, length, sym}
use Rattle.c62_loop_match.proofs.Standing.{stages_more, stages_whole}
use Rattle.c62_loop_match.proofs.stands.are_stages_of.Goals as goal

pub loop-number-preserved : goal.loop-number-preserved
loop-number-preserved c =
    let same : length c.args.entries.now ≡ length c.args.stages.now = c.if-entries-stages.false in
    stages_more c.args.most c.args.entries.now c.args.stages.now c.loop-number.number c.index-entries-number.result
    c.index-stages-number.result c.loop-number-test.true (omega (arith, same, c.loop-number-test.true))
    c.index-entries-number.is c.index-stages-number.is c.if-not-is_stage_of.ensures c.loop-number.invariant

pub returns : goal.returns
returns c = stages_whole c.args.most c.args.entries.now c.args.stages.now (sym c.if-entries-stages.false)
    (λ k d s l. c.loop-number.invariant k d s (omega (arith, l, c.loop-number-test.false)))
