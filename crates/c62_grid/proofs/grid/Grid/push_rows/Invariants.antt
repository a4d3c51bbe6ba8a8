use Rattle.std.proofs.Common.{◌≡◌, ◌++◌, ◌-◌}
use Rattle.std.specs.Prelude.{string_bytes}
use Rattle.std.specs.List.{flat_map, range_with_len}
use Rattle.c62_grid.specs.Grid.{row_at, rows}
use Rattle.c62_grid.proofs.grid.Grid.push_rows.Given as goal

abbrev pub invariant-loop-cycle : goal.invariant-loop-cycle
invariant-loop-cycle l =
    string_bytes l.out ++ flat_map (row_at l.self.widths l.self.path.now l.self.cycles l.self.placed.now)
    (range_with_len l.cycle (l.self.cycles - l.cycle))
    ≡ string_bytes l.fn.out ++ rows l.self.widths l.self.path.now l.self.cycles l.self.placed.now
