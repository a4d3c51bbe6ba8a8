use Rattle.std.proofs.Common.{◌∙◌, ◌++◌, Option, ap}
use Rattle.std.specs.Prelude.{find, string_bytes}
use Rattle.c62_op.specs.Units.{all_units}
use Rattle.c62_packet.specs.declared.placed.Placed.{Placed}
use Rattle.c62_grid.specs.Grid.{is_on}
use Rattle.c62_grid.proofs.Drawing.{one_element}
use Rattle.c62_pipeline.specs.Kernel.{cell}
use Rattle.c62_pipeline.proofs.kernel.push_cells.Goals as goal

pub loop-unit-preserved : goal.loop-unit-preserved
loop-unit-preserved c =
    let at = c.loop-unit in
    let found = ap (λ (standing : Option Placed). string_bytes at.out ++ cell c.args.widths c.args.epilog.now standing)
    c.standing.ensures in
    one_element (λ unit. cell c.args.widths c.args.epilog.now (find (is_on unit) c.args.issued.now)) all_units
    at.unit-index _
    (string_bytes at.out)
    (string_bytes c.push_cell.new.row) _ c.loop-unit-test.true at.invariant (c.in_ok-push_cell.ensures ∙ found)
