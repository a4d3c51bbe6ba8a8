use Rattle.std.proofs.Common.{◌≡◌, ◌++◌, length}
use Rattle.c62_token.specs.Token.{words_left}
use Rattle.c62_adopt_line.specs.Plain.{spaced, in_accesses}
use Rattle.c62_adopt_line.proofs.plain.push_counted.Given as goal

abbrev pub invariant-loop-behind : goal.invariant-loop-behind
invariant-loop-behind l =
    l.text.items ++ spaced (in_accesses l.size (words_left l.left)) ≡ l.initial.text.items ++ spaced
    (in_accesses l.size (words_left l.operands))

abbrev pub decreases-loop-behind : goal.decreases-loop-behind
decreases-loop-behind l = length (words_left l.left)
