use Rattle.std.proofs.Common.{◌≡◌, take}
use Rattle.c62_depend.specs.Plan.{insns_of}
use Rattle.c62_sheet.specs.Journal.{replayed, IsLegal}
use Rattle.c62_view.proofs.version.follow.Given as goal

abbrev pub invariant-loop-k : goal.invariant-loop-k
invariant-loop-k l = record {
  plan : l.sheet.plan ≡ l.fn.sheet.plan;
  spots : IsLegal (insns_of l.fn.sheet.plan) l.fn.sheet.spots l.entries
      → l.sheet.spots ≡ replayed l.fn.sheet.spots (take l.k l.entries);
}
