use Rattle.std.proofs.Common.{◌≡◌, ◌++◌, [], length}
use Rattle.c62_token.specs.Token.{words_left}
use Rattle.c62_adopt_line.specs.Plain.{spaced, plain_words}
use Rattle.c62_adopt_line.proofs.plain.push_plain.Given as goal

abbrev pub invariant-loop-word : goal.invariant-loop-word
invariant-loop-word l =
    l.text.items ++ spaced (plain_words l.last (words_left l.left)) ≡ l.initial.text.items ++ spaced
    (plain_words [] (words_left l.words))

abbrev pub decreases-loop-word : goal.decreases-loop-word
decreases-loop-word l = length (words_left l.left)
