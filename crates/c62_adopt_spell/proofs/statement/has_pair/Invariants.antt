use Rattle.std.proofs.Common.{◌≡◌, length}
use Rattle.c62_token.specs.Token.{words_left}
use Rattle.c62_adopt_spell.specs.Statement.{has_pair}
use Rattle.c62_adopt_spell.proofs.statement.has_pair.Given as goal

abbrev pub invariant-loop-behind : goal.invariant-loop-behind
invariant-loop-behind l = has_pair (words_left l.left) ≡ has_pair (words_left l.words)

abbrev pub decreases-loop-behind : goal.decreases-loop-behind
decreases-loop-behind l = length (words_left l.left)
