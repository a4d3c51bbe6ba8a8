use Rattle.std.proofs.Common.{◌∙◌}
use Rattle.c62_depend.specs.Plan.{insns_of}
use Rattle.c62_refute.proofs.Holding.{keep_on, none_before}
use Rattle.c62_refute.proofs.shrink.part_from.Goals as goal

pub returns-then-not-part_if-clause-none : goal.returns-then-not-part_if-clause-none
returns-then-not-part_if-clause-none c = λ e. none_before (insns_of c.args.plan.now) c.args.windows.now
    c.loop-last.windows c.loop-last.invariant.keeps
    (c.part_if.ensures.none c.if-not-part_if.true)

pub loop-last-preserved : goal.loop-last-preserved
loop-last-preserved c = record {
  sized = c.part_if.ensures.sized ∙ c.loop-last.invariant.sized;
  keeps = keep_on (insns_of c.args.plan.now) c.args.windows.now c.loop-last.windows c.part_if.new.windows
      c.loop-last.invariant.keeps
      (c.part_if.ensures.keeps c.if-not-part_if.false);
}
