use Rattle.std.proofs.Common.{◌∙◌}
use Rattle.c62_depend.specs.Plan.{insns_of}
use Rattle.c62_refute.proofs.Holding.{keep_on}
use Rattle.c62_refute.proofs.shrink.keep_edges.Goals as goal

pub loop-edge-preserved : goal.loop-edge-preserved
loop-edge-preserved c = record {
  sized = c.keep_edge.ensures.sized ∙ c.loop-edge.invariant.sized;
  keeps = keep_on (insns_of c.args.plan.now) c.args.windows.now c.loop-edge.windows c.keep_edge.new.windows
      c.loop-edge.invariant.keeps
      c.keep_edge.ensures.keeps;
}

pub loop-edge-2-preserved : goal.loop-edge-2-preserved
loop-edge-2-preserved c = record {
  sized = c.keep_edge-in-loop-edge-2.ensures.sized ∙ c.loop-edge-2.invariant.sized;
  keeps = keep_on (insns_of c.args.plan.now) c.args.windows.now c.loop-edge-2.windows
      c.keep_edge-in-loop-edge-2.new.windows
      c.loop-edge-2.invariant.keeps c.keep_edge-in-loop-edge-2.ensures.keeps;
}
