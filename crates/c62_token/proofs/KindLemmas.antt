-- Marks that stand alone.
use Rattle.c62_token.proofs.Common.{◌≡◌, ℕ, List, ◌∷◌, Some, arith, nat_tests, Kind, kinds_of, tokens}
use Rattle.c62_token.specs.Kind.{kind_of, lone_mark, mark_of, single_mark}
use Rattle.c62_token.proofs.SpelledTokens.{mark_alone}

pub lone_is : (line rest : List ℕ) (b : ℕ) (kind : Kind) → line ≡ b ∷ rest → lone_mark b ≡ Some kind
    → kinds_of (tokens line) ≡ kind ∷ kinds_of (tokens rest)
unfolding kind_of mark_of single_mark
lone_is line rest b kind are is = rw (are, mark_alone b rest (grind (arith, nat_tests))) (grind (arith, nat_tests))
