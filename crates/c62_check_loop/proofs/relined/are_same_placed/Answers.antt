use Rattle.std.proofs.Common.{arith, ◌≡◌, length, sym}
use Rattle.c62_loop_match.specs.Reading.{unlined}
use Rattle.c62_check_loop.proofs.Relining.{alike_more, alike_whole}
use Rattle.c62_check_loop.proofs.relined.are_same_placed.Goals as goal

pub loop-number-preserved : goal.loop-number-preserved
loop-number-preserved c =
    let same : length c.args.insns.now ≡ length c.args.others.now = c.if-insns-others.false in
    alike_more unlined c.args.insns.now c.args.others.now c.loop-number.number c.index-insns-number.result
    c.index-others-number.result c.loop-number-test.true (omega (arith, same, c.loop-number-test.true))
    c.index-insns-number.is c.index-others-number.is c.if-not-is_same_placed.ensures c.loop-number.invariant

pub returns : goal.returns
returns c = alike_whole unlined c.args.insns.now c.args.others.now (sym c.if-insns-others.false)
    (λ k d e l. c.loop-number.invariant k d e (omega (arith, l, c.loop-number-test.false)))
