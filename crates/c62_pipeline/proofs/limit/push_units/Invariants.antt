use Rattle.std.proofs.Common.{◌≡◌, ◌++◌, drop}
use Rattle.std.specs.Prelude.{string_bytes}
use Rattle.std.specs.List.{flat_map}
use Rattle.c62_op.specs.Units.{all_units}
use Rattle.c62_pipeline.specs.Limit.{unit_word}
use Rattle.c62_pipeline.proofs.limit.push_units.Given as goal

abbrev pub invariant-loop-unit : goal.invariant-loop-unit
invariant-loop-unit l =
    string_bytes l.out ++ flat_map (unit_word l.set) (drop l.unit-index all_units)
    ≡ string_bytes l.fn.out ++ flat_map (unit_word l.set) all_units
