use Rattle.std.specs.Prelude.{string_bytes}
use Rattle.c62_op.specs.Units.{all_units}
use Rattle.c62_grid.specs.Grid.{use_cell}
use Rattle.c62_grid.proofs.Drawing.{one_element}
use Rattle.c62_grid.proofs.grid.Grid.push_shares.Goals as goal

pub loop-unit-preserved : goal.loop-unit-preserved
loop-unit-preserved c =
    let at = c.loop-unit in
    let grid = c.args.self.now in
    one_element (use_cell grid.widths grid.cycles grid.placed.now) all_units at.unit-index _ (string_bytes at.row)
    (string_bytes c.push_share.new.row) _
    c.loop-unit-test.true at.invariant c.in_ok-push_share.ensures
