use Rattle.std.proofs.Common.{◌≡◌, ◌++◌, drop, map}
use Rattle.c62_json.specs.Document.{count}
use Rattle.c62_json_report.proofs.machine.push_numbers.Given as goal

abbrev pub invariant-loop-number : goal.invariant-loop-number
invariant-loop-number l =
    (l.out.tokens ++ map count (drop l.number-index l.numbers) ≡ l.fn.out.tokens ++ map count l.numbers)
    × (l.out.before ≡ l.fn.out.before)
