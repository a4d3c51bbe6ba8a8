use Rattle.c62_loop_match.specs.Reading.{unlined}
use Rattle.c62_check_loop.proofs.Relining.{AreAlike}
use Rattle.c62_check_loop.proofs.relined.are_same_placed.Given as goal

abbrev pub invariant-loop-number : goal.invariant-loop-number
invariant-loop-number l = AreAlike unlined l.insns l.others l.number
