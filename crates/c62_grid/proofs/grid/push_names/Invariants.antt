use Rattle.std.proofs.Common.{◌≡◌, ◌++◌, drop}
use Rattle.std.specs.Prelude.{string_bytes}
use Rattle.std.specs.List.{flat_map}
use Rattle.c62_op.specs.Units.{all_units}
use Rattle.c62_grid.specs.Words.{unit_name}
use Rattle.c62_grid.specs.Grid.{word_cell}
use Rattle.c62_grid.proofs.grid.push_names.Given as goal

abbrev pub invariant-loop-unit : goal.invariant-loop-unit
invariant-loop-unit l =
    string_bytes l.row ++ flat_map (λ unit. word_cell l.widths (unit_name unit)) (drop l.unit-index all_units)
    ≡ string_bytes l.fn.row ++ flat_map (λ unit. word_cell l.widths (unit_name unit)) all_units
