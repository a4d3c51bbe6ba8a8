use Rattle.std.proofs.Common.{arith}
use Rattle.c62_depend.specs.Plan.{insns_of}
use Rattle.c62_check.proofs.Needs.{keeps_more, keeps_all, first_early}
use Rattle.c62_check.proofs.early.early_at.Goals as goal

pub returns-in-Some : goal.returns-in-Some
returns-in-Some c = (
  c.in-Some.ensures.0,
  first_early (insns_of c.args.plan.now) c.args.placed.now c.args.number c.loop-other.other c.in-Some.early
      c.loop-other.invariant c.in-Some.ensures.0 c.in-Some.ensures.1,
)

pub loop-other-preserved : goal.loop-other-preserved
loop-other-preserved c =
    keeps_more (insns_of c.args.plan.now) c.args.placed.now c.args.number c.loop-other.other c.loop-other.invariant
    c.in_default.ensures

pub returns : goal.returns
returns c = keeps_all (insns_of c.args.plan.now) c.args.placed.now c.args.number c.loop-other.other (omega arith)
    c.loop-other.invariant
