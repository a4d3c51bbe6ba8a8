use Rattle.c62_sheet.proofs.Common.{◌≡◌, get_or, all_units, index_of, index_of-listed, insns_of}
use Rattle.c62_sheet.proofs.Search.{first_unit}
use Rattle.c62_sheet.proofs.Victims.{victim_is}
use Rattle.c62_sheet.proofs.victim.victim.Goals as goal

pub first_up_to-first-requires-clause-first : goal.first_up_to-first-requires-clause-first
first_up_to-first-requires-clause-first c =
    let listed : index_of (get_or all_units c.loop-unit.unit-index first_unit) ≡ c.loop-unit.unit-index =
    index_of-listed c.loop-unit.unit-index first_unit c.loop-unit-test.true in
    rw listed c.loop-unit.invariant

pub loop-unit-preserved : goal.loop-unit-preserved
loop-unit-preserved c =
    let listed : index_of (get_or all_units c.loop-unit.unit-index first_unit) ≡ c.loop-unit.unit-index =
    index_of-listed c.loop-unit.unit-index first_unit c.loop-unit-test.true in
    rw listed at c.first_up_to-first.ensures

pub returns : goal.returns
returns c =
    victim_is (insns_of c.args.sheet.now.plan) c.args.sheet.now.spots c.args.i c.early-cycle.result
    c.loop-unit.unit-index c.loop-unit.first
    c.loop-unit-test.false c.early-cycle.ensures c.loop-unit.invariant
