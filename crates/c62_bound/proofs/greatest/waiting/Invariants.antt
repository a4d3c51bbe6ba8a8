use Rattle.std.proofs.Common.{◌≤◌, length}
use Rattle.c62_depend.specs.Plan.{insns_of}
use Rattle.c62_bound.specs.Waiting.{AreWaiting}
use Rattle.c62_bound.proofs.greatest.waiting.Given as goal

abbrev pub invariant-loop-j : goal.invariant-loop-j
invariant-loop-j l = record {
  heights : AreWaiting (insns_of l.plan) l.kind l.side l.j l.heights.items;
  few : length l.heights.items ≤ l.j;
}
