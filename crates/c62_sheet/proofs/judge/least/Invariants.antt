use Rattle.c62_sheet.proofs.Common.{insns_of}
use Rattle.c62_sheet.specs.LeastOn.{FindsLeastAmong}
use Rattle.c62_sheet.proofs.judge.least.Given as goal

abbrev pub invariant-loop-unit : goal.invariant-loop-unit
invariant-loop-unit l = FindsLeastAmong (insns_of l.plan) l.spots l.i l.unit-index l.found
