use Rattle.std.proofs.Common.{◌≡◌, ◌++◌}
use Rattle.c62_report.specs.Report.{word_lines}
use Rattle.c62_report.proofs.report.push_words.Given as goal

abbrev pub invariant-loop-k : goal.invariant-loop-k
invariant-loop-k l = l.out.items ≡ l.fn.out.items ++ word_lines l.state.machine l.k
