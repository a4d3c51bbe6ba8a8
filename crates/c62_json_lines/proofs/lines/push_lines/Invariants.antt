use Rattle.std.proofs.Common.{◌≡◌, ◌++◌, length}
use Rattle.c62_json_lines.specs.Lines.{line_values}
use Rattle.c62_json_lines.proofs.lines.push_lines.Given as goal

abbrev pub invariant-loop-line : goal.invariant-loop-line
invariant-loop-line l = record {
  tokens : l.out.tokens ++ line_values l.rest ≡ l.fn.out.tokens ++ line_values l.bytes;
  before : l.out.before ≡ l.fn.out.before;
}

abbrev pub decreases-loop-line : goal.decreases-loop-line
decreases-loop-line l = length l.rest
