use Rattle.std.proofs.Common.{◌≡◌, ◌++◌}
use Rattle.std.specs.List.{flat_map, range_with_len}
use Rattle.c62_report.specs.Report.{register_line}
use Rattle.c62_report.proofs.report.push_file.Given as goal

abbrev pub invariant-loop-number : goal.invariant-loop-number
invariant-loop-number l = l.out.items ≡ l.fn.out.items ++ flat_map (register_line l.state.machine l.side)
    (range_with_len 0 l.number)
