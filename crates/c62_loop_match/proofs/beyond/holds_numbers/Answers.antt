use Rattle.std.proofs.Common.{arith}
use Rattle.c62_loop_match.proofs.Beyonds.{no_numbers, one_number_more}
use Rattle.c62_loop_match.proofs.beyond.holds_numbers.Goals as goal

pub loop-number-init : goal.loop-number-init
loop-number-init c = no_numbers c.args.beyond.now c.args.place c.args.from

pub loop-number-preserved : goal.loop-number-preserved
loop-number-preserved c = one_number_more c.args.beyond.now c.args.place c.args.from c.loop-number.number
    c.if-not-holds_one.ensures c.loop-number.invariant

pub returns : goal.returns
returns c = λ one there low high. c.loop-number.invariant one there low (omega (arith, high, c.loop-number-test.false))
