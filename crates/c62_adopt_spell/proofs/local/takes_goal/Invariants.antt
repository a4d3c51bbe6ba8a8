use Rattle.std.proofs.Common.{◌≡◌, length}
use Rattle.c62_token.specs.Token.{words_left}
use Rattle.c62_adopt_spell.specs.Local.{takes_goal}
use Rattle.c62_adopt_spell.proofs.local.takes_goal.Given as goal

abbrev pub invariant-loop-word : goal.invariant-loop-word
invariant-loop-word l = takes_goal (words_left l.left) ≡ takes_goal (words_left l.words)

abbrev pub decreases-loop-word : goal.decreases-loop-word
decreases-loop-word l = length (words_left l.left)
