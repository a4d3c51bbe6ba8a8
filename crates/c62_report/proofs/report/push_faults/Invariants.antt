use Rattle.std.proofs.Common.{◌≡◌, ◌++◌, drop}
use Rattle.std.specs.List.{flat_map}
use Rattle.c62_report.specs.Report.{fault_line}
use Rattle.c62_report.proofs.report.push_faults.Given as goal

abbrev pub invariant-loop-number : goal.invariant-loop-number
invariant-loop-number l =
    l.out.items ++ flat_map fault_line (drop l.number-index l.faults) ≡ l.fn.out.items ++ flat_map fault_line l.faults
