use Rattle.std.proofs.Common.{◌∙◌}
use Rattle.c62_depend.specs.Plan.{insns_of}
use Rattle.c62_refute.proofs.Holding.{keep_on, none_before}
use Rattle.c62_refute.proofs.shrink.part_room.Goals as goal

pub returns-then-not-part_from-clause-none : goal.returns-then-not-part_from-clause-none
returns-then-not-part_from-clause-none c = λ e. none_before (insns_of c.args.plan.now) c.args.windows.now
    c.loop-first.windows c.loop-first.invariant.keeps
    (c.part_from.ensures.none c.if-not-part_from.true)

pub loop-first-preserved : goal.loop-first-preserved
loop-first-preserved c = record {
  sized = c.part_from.ensures.sized ∙ c.loop-first.invariant.sized;
  keeps = keep_on (insns_of c.args.plan.now) c.args.windows.now c.loop-first.windows c.part_from.new.windows
      c.loop-first.invariant.keeps
      (c.part_from.ensures.keeps c.if-not-part_from.false);
}
