use Rattle.c62_sheet.proofs.Common.{◌≤◌, insns_of, HasCount, IsPlacedOn}
use Rattle.c62_sheet.proofs.counts.count_placed.Given as goal

abbrev pub invariant-loop-k : goal.invariant-loop-k
invariant-loop-k l = record {
  count : HasCount (IsPlacedOn (insns_of l.plan) l.spots l.of) l.k l.count;
  few : l.count ≤ l.k;
}
