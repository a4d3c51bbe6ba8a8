use Rattle.c62_loop_match.proofs.InTurn.{Standing}
use Rattle.c62_loop_match.proofs.turns.stand_in_turn.Given as goal

abbrev pub invariant-loop-number : goal.invariant-loop-number
invariant-loop-number l = Standing l.counter l.placed l.number
