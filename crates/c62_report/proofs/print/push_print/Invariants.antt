use Rattle.std.proofs.Common.{◌≡◌, ◌++◌, ℕ}
use Rattle.c62_report.specs.Print.{print_lines}
use Rattle.c62_report.proofs.print.push_print.Given as goal

abbrev pub invariant-loop-left : goal.invariant-loop-left
invariant-loop-left l =
    l.out.items ++ print_lines l.state.machine l.size l.signed l.left l.place
    ≡ l.fn.out.items ++ print_lines l.state.machine l.size l.signed l.fn.count l.fn.place

abbrev pub decreases-loop-left : goal.decreases-loop-left
decreases-loop-left l = l.left
