use Rattle.std.proofs.Common.{◌≡◌, ◌++◌, drop}
use Rattle.c62_printing.specs.Printing.{prints}
use Rattle.c62_printing.proofs.printing.push_prints.Given as goal

abbrev pub invariant-loop-setting : goal.invariant-loop-setting
invariant-loop-setting l =
    l.out.items ++ prints l.state.machine (drop l.setting-index l.settings) ≡ l.fn.out.items ++ prints l.state.machine
    l.settings
