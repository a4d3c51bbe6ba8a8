use Rattle.std.proofs.Common.{arith, ◌≡◌, length, sym}
use Rattle.c62_loop_match.proofs.Standing.{stand_more, stand_whole}
use Rattle.c62_loop_match.proofs.stands.stand_for.Goals as goal

pub loop-number-preserved : goal.loop-number-preserved
loop-number-preserved c =
    let same : length c.args.entries.now ≡ length c.args.placed.now = c.if-entries-placed.false in
    stand_more c.args.entries.now c.args.placed.now c.loop-number.number c.index-entries-number.result
    c.index-placed-number.result c.loop-number-test.true (omega (arith, same, c.loop-number-test.true))
    c.index-entries-number.is c.index-placed-number.is (c.stands_as.ensures.0 c.if-not-stands_as.false)
    c.loop-number.invariant

pub returns : goal.returns
returns c = stand_whole c.args.entries.now c.args.placed.now (sym c.if-entries-placed.false)
    (λ k d q l. c.loop-number.invariant k d q (omega (arith, l, c.loop-number-test.false)))
