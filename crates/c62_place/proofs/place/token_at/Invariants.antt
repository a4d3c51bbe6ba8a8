use Rattle.c62_token.proofs.Common.{◌≡◌, ◌-◌, ◌≤◌, length, drop, tokens}
use Rattle.c62_place.proofs.place.token_at.Given as goal

abbrev pub invariant-loop-place : goal.invariant-loop-place
invariant-loop-place l = record {
  in_range : l.start ≤ length l.line;
  few : l.left ≤ l.before;
  there : tokens (drop l.start l.line) ≡ drop (l.before - l.left) (tokens l.line);
}

abbrev pub decreases-loop-place : goal.decreases-loop-place
decreases-loop-place l = l.left
