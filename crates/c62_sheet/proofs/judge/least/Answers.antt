use Rattle.c62_sheet.proofs.Common.{insns_of}
use Rattle.c62_sheet.proofs.LeastSpots.{at_unit, next_unit, least_of_all}
use Rattle.c62_sheet.proofs.judge.least.Goals as goal

pub least_with-found-requires-clause-found : goal.least_with-found-requires-clause-found
least_with-found-requires-clause-found c =
    at_unit (insns_of c.args.plan.now) c.args.spots.now c.args.i c.loop-unit.unit-index _ c.loop-unit.found
    c.loop-unit-test.true c.loop-unit.invariant

pub loop-unit-preserved : goal.loop-unit-preserved
loop-unit-preserved c =
    next_unit (insns_of c.args.plan.now) c.args.spots.now c.args.i c.loop-unit.unit-index _ c.least_with-found.result
    c.loop-unit-test.true
    c.least_with-found.ensures

pub returns : goal.returns
returns c =
    least_of_all (insns_of c.args.plan.now) c.args.spots.now c.args.i c.loop-unit.unit-index c.loop-unit.found
    c.loop-unit-test.false c.loop-unit.invariant
