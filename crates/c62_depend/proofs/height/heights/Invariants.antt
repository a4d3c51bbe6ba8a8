use Rattle.c62_depend.proofs.Common.{◌+◌, insns_in, AreHeightsFrom}
use Rattle.c62_depend.proofs.height.heights.Given as goal

abbrev pub invariant-loop-i : goal.invariant-loop-i
invariant-loop-i l = AreHeightsFrom (insns_in l.uses) l.i l.heights.items
