use Rattle.std.proofs.Common.{◌≡◌, ◌++◌, false, length}
use Rattle.c62_token.specs.Token.{tokens, words_left}
use Rattle.c62_adopt_line.specs.Plain.{spaced}
use Rattle.c62_adopt_spell.specs.Bracket.{unbracketed}
use Rattle.c62_adopt_spell.proofs.bracket.push_unbracketed.Given as goal

abbrev pub invariant-loop-next : goal.invariant-loop-next
invariant-loop-next l = l.text.items ++ spaced (unbracketed l.base (words_left l.left)) ≡ l.initial.text.items ++ spaced
    (unbracketed false (tokens l.bytes))

abbrev pub decreases-loop-next : goal.decreases-loop-next
decreases-loop-next l = length (words_left l.left)
