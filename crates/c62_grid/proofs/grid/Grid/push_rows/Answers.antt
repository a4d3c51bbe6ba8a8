use Rattle.std.specs.Prelude.{string_bytes}
use Rattle.c62_grid.specs.Grid.{row_at}
use Rattle.c62_grid.proofs.Drawing.{one_more}
use Rattle.c62_grid.proofs.grid.Grid.push_rows.Goals as goal

pub loop-cycle-preserved : goal.loop-cycle-preserved
loop-cycle-preserved c =
    let at = c.loop-cycle in
    let grid = c.args.self.now in
    one_more (row_at grid.widths grid.path.now grid.cycles grid.placed.now) at.cycle grid.cycles (string_bytes at.out)
    (string_bytes c.push_row.new.out) _
    c.loop-cycle-test.true at.invariant c.in_ok-push_row.ensures
