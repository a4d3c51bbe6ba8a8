use Rattle.c62_depend.proofs.Common.{insns_in}
use Rattle.c62_depend.specs.Since.{StandSince, AreSinceBefore}
use Rattle.c62_depend.proofs.since.all_since.Given as goal

abbrev pub invariant-loop-j : goal.invariant-loop-j
invariant-loop-j l = AreSinceBefore l.uses l.j l.all.items × StandSince (insns_in l.uses) l.j l.numbers
