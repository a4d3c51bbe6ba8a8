use Rattle.c62_token.proofs.Common.{◌≡◌, ◌-◌, ◌≤◌, length, drop, tokens}
use Rattle.c62_place.proofs.place.blanks.Given as goal

abbrev pub invariant-loop-count : goal.invariant-loop-count
invariant-loop-count l = record {
  in_range : l.count ≤ length l.line;
  same : tokens (drop l.count l.line) ≡ tokens l.line;
}

abbrev pub decreases-loop-count : goal.decreases-loop-count
decreases-loop-count l = length l.line - l.count
