use Rattle.std.proofs.Common.{◌≡◌, ◌++◌}
use Rattle.c62_json_report.specs.Prints.{values}
use Rattle.c62_json_report.proofs.prints.push_values.Given as goal

abbrev pub invariant-loop-left : goal.invariant-loop-left
invariant-loop-left l =
    (l.out.tokens ++ values l.state.machine l.size l.print.signed l.left l.place
    ≡ l.fn.out.tokens ++ values l.state.machine l.size l.print.signed l.print.count l.print.place)
    × (l.out.before ≡ l.fn.out.before)

abbrev pub decreases-loop-left : goal.decreases-loop-left
decreases-loop-left l = l.left
