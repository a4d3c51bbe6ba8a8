use Rattle.c62_line.proofs.Common.{◌≡◌, ◌++◌, length, words_left, kinds_in}
use Rattle.c62_place.proofs.token.kinds_left.Given as goal

abbrev pub invariant-loop-kind : goal.invariant-loop-kind
invariant-loop-kind l = l.kinds.items ++ kinds_in l.isa (words_left l.left) ≡ kinds_in l.isa (words_left l.rest)

abbrev pub decreases-loop-kind : goal.decreases-loop-kind
decreases-loop-kind l = length (words_left l.left)
