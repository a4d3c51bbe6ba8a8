use Rattle.c62_token.proofs.Common.{length, ◌≡◌, tokens}
use Rattle.c62_token.proofs.token.from_token.Given as goal

abbrev pub invariant-loop-start : goal.invariant-loop-start
invariant-loop-start l = tokens l.start ≡ tokens l.line

abbrev pub decreases-loop-start : goal.decreases-loop-start
decreases-loop-start l = length l.start
