use Rattle.c62_depend.proofs.Common.{insns_in, AreUnitChoices}
use Rattle.c62_depend.proofs.side.unit_choices.Given as goal

abbrev pub invariant-loop-i : goal.invariant-loop-i
invariant-loop-i l = AreUnitChoices (insns_in l.uses) l.i l.choices.items
