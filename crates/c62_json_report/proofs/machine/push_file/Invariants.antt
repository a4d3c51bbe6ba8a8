use Rattle.std.proofs.Common.{◌≡◌, ◌++◌}
use Rattle.std.specs.List.{flat_map, range_with_len}
use Rattle.c62_json_report.specs.Machine.{register}
use Rattle.c62_json_report.proofs.machine.push_file.Given as goal

abbrev pub invariant-loop-number : goal.invariant-loop-number
invariant-loop-number l =
    (l.out.tokens ≡ l.fn.out.tokens ++ flat_map (register l.state.machine l.side) (range_with_len 0 l.number))
    × (l.out.before ≡ l.fn.out.before)
