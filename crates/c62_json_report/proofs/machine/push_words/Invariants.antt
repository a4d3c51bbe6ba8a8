use Rattle.std.proofs.Common.{◌≡◌, ◌++◌}
use Rattle.c62_json_report.specs.Machine.{words}
use Rattle.c62_json_report.proofs.machine.push_words.Given as goal

abbrev pub invariant-loop-k : goal.invariant-loop-k
invariant-loop-k l =
    (l.out.tokens ≡ l.fn.out.tokens ++ words l.state.machine l.k) × (l.out.before ≡ l.fn.out.before)
