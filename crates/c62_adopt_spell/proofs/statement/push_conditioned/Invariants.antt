use Rattle.std.proofs.Common.{◌≡◌, ◌++◌, true, length}
use Rattle.c62_token.specs.Token.{tokens, words_left}
use Rattle.c62_adopt_line.specs.Plain.{spaced}
use Rattle.c62_adopt_spell.specs.Statement.{fronted}
use Rattle.c62_adopt_spell.proofs.statement.push_conditioned.Given as goal

abbrev pub invariant-loop-word : goal.invariant-loop-word
invariant-loop-word l =
    l.text.items ++ spaced (fronted l.names l.before (words_left l.left)) ≡ l.initial.text.items ++ spaced
    (fronted l.names true (tokens l.bytes))

abbrev pub decreases-loop-word : goal.decreases-loop-word
decreases-loop-word l = length (words_left l.left)
