use Rattle.c62_loop_match.specs.Beyond.{HoldsNumbers}
use Rattle.c62_loop_match.proofs.beyond.holds_numbers.Given as goal

abbrev pub invariant-loop-number : goal.invariant-loop-number
invariant-loop-number l = HoldsNumbers l.beyond l.place l.from l.number
