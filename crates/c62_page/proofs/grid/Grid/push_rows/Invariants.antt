use Rattle.std.proofs.Common.{◌≡◌, ◌++◌, ◌-◌}
use Rattle.std.specs.List.{flat_map, range_with_len}
use Rattle.c62_markup.specs.Page.{page}
use Rattle.c62_page.specs.Grid.{cycle_row, rows}
use Rattle.c62_page.proofs.grid.Grid.push_rows.Given as goal

abbrev pub invariant-loop-cycle : goal.invariant-loop-cycle
invariant-loop-cycle l =
    l.out.items ++ page (flat_map (cycle_row l.self.path.now l.self.cycles l.self.placed.now)
    (range_with_len l.cycle (l.self.cycles - l.cycle)))
    ≡ l.fn.out.items ++ page (rows l.self.path.now l.self.cycles l.self.placed.now)
