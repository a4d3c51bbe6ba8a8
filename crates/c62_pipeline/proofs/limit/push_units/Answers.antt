use Rattle.std.specs.Prelude.{string_bytes}
use Rattle.c62_op.specs.Units.{all_units}
use Rattle.c62_grid.proofs.Drawing.{one_element}
use Rattle.c62_pipeline.specs.Limit.{unit_word}
use Rattle.c62_pipeline.proofs.limit.push_units.Goals as goal

pub loop-unit-preserved : goal.loop-unit-preserved
loop-unit-preserved c =
    one_element (unit_word c.args.set) all_units c.loop-unit.unit-index _ (string_bytes c.loop-unit.out)
    (string_bytes c.push_unit.new.out) _ c.loop-unit-test.true c.loop-unit.invariant c.in_ok-push_unit.ensures
