use Rattle.std.proofs.Common.{◌≡◌, ◌++◌, drop}
use Rattle.std.specs.Prelude.{find, string_bytes}
use Rattle.std.specs.List.{flat_map}
use Rattle.c62_op.specs.Units.{all_units}
use Rattle.c62_grid.specs.Grid.{is_on}
use Rattle.c62_pipeline.specs.Kernel.{cell}
use Rattle.c62_pipeline.proofs.kernel.push_cells.Given as goal

abbrev pub invariant-loop-unit : goal.invariant-loop-unit
invariant-loop-unit l =
    string_bytes l.out
    ++ flat_map (λ unit. cell l.widths l.epilog (find (is_on unit) l.issued)) (drop l.unit-index all_units)
    ≡ string_bytes l.fn.out ++ flat_map (λ unit. cell l.widths l.epilog (find (is_on unit) l.issued)) all_units
