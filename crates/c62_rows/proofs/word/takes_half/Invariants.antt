use Rattle.std.proofs.Common.{◌≡◌, length}
use Rattle.c62_token.specs.Token.{words_left}
use Rattle.c62_rows.specs.Word.{takes_half}
use Rattle.c62_rows.proofs.word.takes_half.Given as goal

abbrev pub invariant-loop-word : goal.invariant-loop-word
invariant-loop-word l = takes_half (words_left l.left) ≡ takes_half (words_left l.words)

abbrev pub decreases-loop-word : goal.decreases-loop-word
decreases-loop-word l = length (words_left l.left)
