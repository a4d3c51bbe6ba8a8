use Rattle.c62_op.proofs.TakerLemmas.{takers_more}
use Rattle.c62_op.proofs.form.units_taking.Goals as goal

pub loop-form-preserved : goal.loop-form-preserved
loop-form-preserved c = λ unit.
    takers_more c.forms-form-items.result.now c.loop-form.form-index _ c.args.operands c.loop-form.units
    c.takers-units.result unit c.loop-form-test.true (c.loop-form.invariant unit) (c.takers-units.ensures unit)
