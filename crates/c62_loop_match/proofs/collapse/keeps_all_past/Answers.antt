use Rattle.std.proofs.Common.{arith, ℕ}
use Rattle.std.proofs.lemmas.Bool.{OnTrue_at}
use Rattle.c62_loop_match.specs.Promise.{promises}
use Rattle.c62_loop_match.specs.Collapse.{KeepsPast}
use Rattle.c62_loop_match.proofs.Pairs.{one_later}
use Rattle.c62_loop_match.proofs.collapse.keeps_all_past.Goals as goal

pub loop-passes-preserved : goal.loop-passes-preserved
loop-passes-preserved c =
    one_later (λ (k : ℕ). KeepsPast (promises c.args.promise) c.args.work.now c.args.schedule.now c.args.most
    c.args.beyond.now k) c.loop-passes.passes
    (OnTrue_at c.if-not-branch.false c.in_ok-keeps_past.ensures) c.loop-passes.invariant

pub returns : goal.returns
returns c = λ passes some few. c.loop-passes.invariant passes some (omega (arith, few, c.loop-passes-test.false))
