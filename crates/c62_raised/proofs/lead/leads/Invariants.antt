use Rattle.std.proofs.Common.{◌≡◌, length}
use Rattle.c62_depend.specs.Plan.{insns_of}
use Rattle.c62_raised.specs.Steps.{AreLongestBelow}
use Rattle.c62_raised.proofs.lead.leads.Given as goal

abbrev pub invariant-loop-j : goal.invariant-loop-j
invariant-loop-j l = record {
  long : length l.leads.items ≡ l.j;
  are : AreLongestBelow (insns_of l.plan) l.i l.j l.leads.items;
}
