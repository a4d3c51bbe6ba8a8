use Rattle.std.proofs.Common.{◌≡◌, length}
use Rattle.c62_token.specs.Token.{words_left}
use Rattle.c62_adopt_spell.specs.Statement.{goes}
use Rattle.c62_adopt_spell.proofs.statement.goes.Given as goal

abbrev pub invariant-loop-word : goal.invariant-loop-word
invariant-loop-word l = goes (words_left l.left) ≡ goes (words_left l.words)

abbrev pub decreases-loop-word : goal.decreases-loop-word
decreases-loop-word l = length (words_left l.left)
