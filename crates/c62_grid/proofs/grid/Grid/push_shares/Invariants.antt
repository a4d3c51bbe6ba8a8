use Rattle.std.proofs.Common.{◌≡◌, ◌++◌, drop}
use Rattle.std.specs.Prelude.{string_bytes}
use Rattle.std.specs.List.{flat_map}
use Rattle.c62_op.specs.Units.{all_units}
use Rattle.c62_grid.specs.Grid.{use_cell, use_cells}
use Rattle.c62_grid.proofs.grid.Grid.push_shares.Given as goal

abbrev pub invariant-loop-unit : goal.invariant-loop-unit
invariant-loop-unit l =
    string_bytes l.row ++ flat_map (use_cell l.self.widths l.self.cycles l.self.placed.now)
    (drop l.unit-index all_units)
    ≡ string_bytes l.fn.row ++ use_cells l.self.widths l.self.cycles l.self.placed.now
