use Rattle.c62_line.proofs.Common.{◌≡◌, length, words_left, has_colon}
use Rattle.c62_line.proofs.line.has_colon.Given as goal

abbrev pub invariant-loop-word : goal.invariant-loop-word
invariant-loop-word l = has_colon (words_left l.left) ≡ has_colon (words_left l.rest)

abbrev pub decreases-loop-word : goal.decreases-loop-word
decreases-loop-word l = length (words_left l.left)
