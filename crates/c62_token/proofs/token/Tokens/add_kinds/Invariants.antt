use Rattle.c62_token.proofs.Common.{◌≡◌, ◌++◌, length, tokens, words_left, kinds_of}
use Rattle.c62_token.specs.Kind.{kinds_in}
use Rattle.c62_token.proofs.token.Tokens.add_kinds.Given as goal

abbrev pub invariant-loop-kind : goal.invariant-loop-kind
invariant-loop-kind l = l.kinds.items ++ kinds_in l.set (tokens l.rest) ≡ kinds_in l.set (words_left l.self)

abbrev pub decreases-loop-kind : goal.decreases-loop-kind
decreases-loop-kind l = length (kinds_of (tokens l.rest))
