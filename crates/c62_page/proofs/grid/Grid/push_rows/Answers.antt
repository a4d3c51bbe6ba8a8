use Rattle.c62_page.specs.Grid.{cycle_row}
use Rattle.c62_page.proofs.Drawing.{one_more}
use Rattle.c62_page.proofs.grid.Grid.push_rows.Goals as goal

pub loop-cycle-preserved : goal.loop-cycle-preserved
loop-cycle-preserved c =
    let at = c.loop-cycle in
    let grid = c.args.self.now in
    one_more (cycle_row grid.path.now grid.cycles grid.placed.now) at.cycle grid.cycles at.out.items
    c.push_row.new.out.items _ c.loop-cycle-test.true at.invariant c.in_ok-push_row.ensures
