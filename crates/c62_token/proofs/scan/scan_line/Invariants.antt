use Rattle.c62_token.proofs.Common.{◌≡◌, ◌≤◌, ◌-◌, eqb, length, take, list_all, list_any, is_allowed}
use Rattle.c62_token.proofs.scan.scan_line.Given as goal

abbrev pub invariant-loop-start : goal.invariant-loop-start
invariant-loop-start l = record {
  within : l.start ≤ length l.line;
  allowed : l.known.allowed ≡ list_all is_allowed (take l.start l.line);
  colon : l.known.colon ≡ list_any (λ b. eqb b 58) (take l.start l.line);
}

abbrev pub decreases-loop-start : goal.decreases-loop-start
decreases-loop-start l = length l.line - l.start
