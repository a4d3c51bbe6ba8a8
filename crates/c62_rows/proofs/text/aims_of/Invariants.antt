use Rattle.std.proofs.Common.{◌≡◌, ◌++◌}
use Rattle.c62_rows.specs.Text.{aims_among, lost_among}
use Rattle.c62_rows.proofs.text.aims_of.Given as goal

abbrev pub invariant-loop-target : goal.invariant-loop-target
invariant-loop-target l = record {
  so_far : l.aims.items ++ aims_among l.target-iterator l.labels.entries ≡ aims_among l.targets.entries
      l.labels.entries;
  none_lost : lost_among l.target-iterator l.labels.entries ≡ lost_among l.targets.entries l.labels.entries;
}
