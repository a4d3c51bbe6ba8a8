use Rattle.std.proofs.Common.{All}
use Rattle.c62_depend.specs.Plan.{insns_of}
use Rattle.c62_refute.specs.Edge.{IsEdge}
use Rattle.c62_refute.proofs.edge.edges.Given as goal

abbrev pub invariant-loop-link : goal.invariant-loop-link
invariant-loop-link l = All (IsEdge (insns_of l.plan)) l.edges.items

abbrev pub invariant-loop-from : goal.invariant-loop-from
invariant-loop-from l = All (IsEdge (insns_of l.plan)) l.edges.items
