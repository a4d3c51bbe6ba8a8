use Rattle.c62_shortest.specs.Shortest.{IsShortest}
use Rattle.c62_shortest.proofs.searched.searched.Given as goal

abbrev pub invariant-loop : goal.invariant-loop
invariant-loop l = IsShortest l.plan l.fn.best.packets.cycles l.found
