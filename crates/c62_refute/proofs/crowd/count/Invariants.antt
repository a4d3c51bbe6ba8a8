use Rattle.std.proofs.Common.{◌≤◌}
use Rattle.c62_depend.specs.Plan.{insns_of}
use Rattle.c62_sheet.specs.Counts.{HasCount}
use Rattle.c62_refute.specs.Crowd.{IsInside}
use Rattle.c62_refute.proofs.crowd.count.Given as goal

abbrev pub invariant-loop-i : goal.invariant-loop-i
invariant-loop-i l = record {
  few : l.count ≤ l.i;
  counted : HasCount (IsInside (insns_of l.plan) l.windows l.stretch) l.i l.count;
}
