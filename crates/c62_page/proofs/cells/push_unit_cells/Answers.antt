use Rattle.std.proofs.Common.{◌∙◌, ◌++◌, Option, ap}
use Rattle.std.specs.Prelude.{find}
use Rattle.c62_op.specs.Units.{all_units}
use Rattle.c62_packet.specs.declared.placed.Placed.{Placed}
use Rattle.c62_grid.specs.Grid.{is_on}
use Rattle.c62_markup.specs.Page.{page}
use Rattle.c62_page.specs.Cells.{unit_cell}
use Rattle.c62_page.proofs.Drawing.{one_element}
use Rattle.c62_page.proofs.cells.push_unit_cells.Goals as goal

pub loop-unit-preserved : goal.loop-unit-preserved
loop-unit-preserved c =
    let at = c.loop-unit in
    let path = c.args.path.now in
    let found = ap (λ (standing : Option Placed). at.out.items ++ page (unit_cell path standing)) c.standing.ensures in
    one_element (λ unit. unit_cell path (find (is_on unit) c.args.issued.now)) all_units at.unit-index _ at.out.items
    c.push_unit_cell.new.out.items _ c.loop-unit-test.true at.invariant (c.in_ok-push_unit_cell.ensures ∙ found)
