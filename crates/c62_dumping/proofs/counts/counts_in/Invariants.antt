use Rattle.std.proofs.Common.{◌≡◌, ◌++◌, drop}
use Rattle.c62_dumping.specs.Counts.{counts_in}
use Rattle.c62_dumping.proofs.counts.counts_in.Given as goal

abbrev pub invariant-loop-setting : goal.invariant-loop-setting
invariant-loop-setting l = l.counts.items ++ counts_in (drop l.setting-index l.settings) ≡ counts_in l.settings
