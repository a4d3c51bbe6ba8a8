use Rattle.c62_depend.specs.Plan.{insns_of}
use Rattle.c62_board.proofs.LeftSpots.{AreNarrowed}
use Rattle.c62_board.proofs.withdrawal.going_with.Given as goal

abbrev pub invariant-loop-j : goal.invariant-loop-j
invariant-loop-j l = AreNarrowed (insns_of l.sheet.plan) l.sheet.spots l.i l.j l.marks
