use Rattle.std.proofs.Common.{arith}
use Rattle.c62_pipeline.proofs.GivingUp.{each_given_up}
use Rattle.c62_pipeline.proofs.written.give_all_up.Goals as goal

pub returns : goal.returns
returns c =
    each_given_up c.loop-choice.choices c.args.choices.now c.loop-choice.invariant.same
    (λ k d less. c.loop-choice.invariant.before k d (omega (arith, less, c.loop-choice-test.false)))
