use Rattle.c62_loop_match.proofs.refusal.first_astray.Given as goal

abbrev pub invariant-loop-each : goal.invariant-loop-each
invariant-loop-each l = Unit {0}
