use Rattle.c62_depend.specs.Plan.{insns_of}
use Rattle.c62_sheet.specs.Victim.{IsFirstBefore}
use Rattle.c62_sheet.proofs.victim.victim.Given as goal

abbrev pub invariant-loop-unit : goal.invariant-loop-unit
invariant-loop-unit l = IsFirstBefore (insns_of l.sheet.plan) l.sheet.spots l.i l.cycle l.unit-index l.first
