use Rattle.std.proofs.Common.{◌≡◌, ◌++◌, drop}
use Rattle.std.specs.Prelude.{string_bytes}
use Rattle.std.specs.List.{flat_map}
use Rattle.c62_op.specs.Units.{all_units}
use Rattle.c62_grid.specs.Words.{unit_name}
use Rattle.c62_pipeline.specs.Kernel.{empty_cell}
use Rattle.c62_pipeline.proofs.kernel.push_names.Given as goal

abbrev pub invariant-loop-unit : goal.invariant-loop-unit
invariant-loop-unit l =
    string_bytes l.out ++ flat_map (λ unit. empty_cell l.widths (unit_name unit)) (drop l.unit-index all_units)
    ≡ string_bytes l.fn.out ++ flat_map (λ unit. empty_cell l.widths (unit_name unit)) all_units
