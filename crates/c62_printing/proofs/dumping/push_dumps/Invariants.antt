use Rattle.std.proofs.Common.{◌≡◌, ◌++◌, drop}
use Rattle.c62_printing.specs.Dumping.{dumps}
use Rattle.c62_printing.proofs.dumping.push_dumps.Given as goal

abbrev pub invariant-loop-setting : goal.invariant-loop-setting
invariant-loop-setting l =
    l.out.items ++ dumps l.state.machine (drop l.setting-index l.settings) ≡ l.fn.out.items ++ dumps l.state.machine
    l.settings
