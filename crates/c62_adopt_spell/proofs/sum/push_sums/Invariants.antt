use Rattle.std.proofs.Common.{◌≡◌, ◌++◌, length}
use Rattle.c62_token.specs.Token.{tokens, words_left}
use Rattle.c62_adopt_line.specs.Plain.{spaced}
use Rattle.c62_adopt_spell.specs.declared.sum.Sum.TheVariants.{Nothing}
use Rattle.c62_adopt_spell.specs.Sum.{summed}
use Rattle.c62_adopt_spell.proofs.sum.push_sums.Given as goal

abbrev pub invariant-loop-word : goal.invariant-loop-word
invariant-loop-word l =
    l.text.items ++ spaced (summed l.names l.sum (words_left l.left)) ≡ l.initial.text.items ++ spaced
    (summed l.names Nothing (tokens l.bytes))

abbrev pub decreases-loop-word : goal.decreases-loop-word
decreases-loop-word l = length (words_left l.left)
