use Rattle.std.proofs.Common.{◌≡◌, ◌++◌, drop}
use Rattle.std.specs.Prelude.{map}
use Rattle.c62_json.specs.Document.{count}
use Rattle.c62_json_show.proofs.limits.push_each_line.Given as goal

abbrev pub invariant-loop-line : goal.invariant-loop-line
invariant-loop-line l =
    (l.out.tokens ++ map count (drop l.line-index l.lines) ≡ l.fn.out.tokens ++ map count l.lines)
    × (l.out.before ≡ l.fn.out.before)
