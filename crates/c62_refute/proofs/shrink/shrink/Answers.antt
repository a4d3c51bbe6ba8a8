use Rattle.std.proofs.Common.{◌∙◌}
use Rattle.c62_depend.specs.Plan.{insns_of}
use Rattle.c62_refute.proofs.Holding.{keep_on, none_before}
use Rattle.c62_refute.proofs.shrink.shrink.Goals as goal

pub returns-then-not-branch-clause-none : goal.returns-then-not-branch-clause-none
returns-then-not-branch-clause-none c = λ e. none_before (insns_of c.args.plan.now) c.args.windows.now c.loop.windows
    c.loop.invariant.keeps
    (c.in_ok-round.ensures.none c.if-not-branch.true)

pub returns-then-after-before-clause-keeps : goal.returns-then-after-before-clause-keeps
returns-then-after-before-clause-keeps c = λ e. keep_on (insns_of c.args.plan.now) c.args.windows.now c.loop.windows
    c.round.new.windows c.loop.invariant.keeps
    (c.in_ok-round.ensures.keeps c.if-not-branch.false)

pub loop-preserved : goal.loop-preserved
loop-preserved c = record {
  sized = c.in_ok-round.ensures.sized ∙ c.loop.invariant.sized;
  keeps = keep_on (insns_of c.args.plan.now) c.args.windows.now c.loop.windows c.round.new.windows
      c.loop.invariant.keeps
      (c.in_ok-round.ensures.keeps c.if-not-branch.false);
}
