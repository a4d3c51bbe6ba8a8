use Rattle.c62_line.proofs.Common.{◌≡◌, ◌++◌, length, words_left}
use Rattle.c62_place.specs.Sort.{sorts_of}
use Rattle.c62_place.proofs.token.sorts_left.Given as goal

abbrev pub invariant-loop-word : goal.invariant-loop-word
invariant-loop-word l = l.sorts.items ++ sorts_of l.isa (words_left l.left) ≡ sorts_of l.isa (words_left l.rest)

abbrev pub decreases-loop-word : goal.decreases-loop-word
decreases-loop-word l = length (words_left l.left)
