use Rattle.c62_sheet.proofs.Common.{arith, insns_of, many_insns, ◌<◌, length}
use Rattle.c62_sheet.proofs.LeastSpots.{end_within, found_here, kept}
use Rattle.c62_sheet.proofs.judge.least_with.Goals as goal

pub first_on-cycle-requires-clause-within : goal.first_on-cycle-requires-clause-within
first_on-cycle-requires-clause-within c =
    let sized : c.args.i < length c.args.spots.now = omega (arith, many_insns, c.requires.lawful.sized) in
    end_within (insns_of c.args.plan.now) c.args.spots.now c.args.i _ c.args.found c.end_of-end.result sized
    c.end_of-end.ensures c.requires.found

pub returns-then-cycle-end : goal.returns-then-cycle-end
returns-then-cycle-end c =
    let sized : c.args.i < length c.args.spots.now = omega (arith, many_insns, c.requires.lawful.sized) in
    found_here (insns_of c.args.plan.now) c.args.spots.now c.args.i sized c.args.unit c.args.found c.end_of-end.result
    c.first_on-cycle.result
    c.end_of-end.ensures c.requires.found c.first_on-cycle.ensures c.if-cycle-end.true

pub returns-else-cycle-end : goal.returns-else-cycle-end
returns-else-cycle-end c =
    let sized : c.args.i < length c.args.spots.now = omega (arith, many_insns, c.requires.lawful.sized) in
    kept (insns_of c.args.plan.now) c.args.spots.now c.args.i sized c.args.unit c.args.found c.end_of-end.result
    c.first_on-cycle.result
    c.end_of-end.ensures c.requires.found c.first_on-cycle.ensures c.if-cycle-end.false
