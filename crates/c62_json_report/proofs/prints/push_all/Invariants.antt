use Rattle.std.proofs.Common.{◌≡◌, ◌++◌, drop}
use Rattle.std.specs.List.{flat_map}
use Rattle.c62_json_report.specs.Prints.{printed}
use Rattle.c62_json_report.proofs.prints.push_all.Given as goal

abbrev pub invariant-loop-setting : goal.invariant-loop-setting
invariant-loop-setting l =
    (l.out.tokens ++ flat_map (printed l.state.machine) (drop l.setting-index l.settings)
    ≡ l.fn.out.tokens ++ flat_map (printed l.state.machine) l.settings)
    × (l.out.before ≡ l.fn.out.before)
