use Rattle.std.proofs.Common.{◌≡◌, ◌++◌}
use Rattle.std.specs.Prelude.{codes}
use Rattle.std.specs.List.{flat_map, range_with_len}
use Rattle.c62_profile.specs.Table.{serial_row}
use Rattle.c62_profile.proofs.serial.serial_table.Given as goal

abbrev pub invariant-loop-number : goal.invariant-loop-number
invariant-loop-number l =
    l.out.items ≡ (l.fn.out.items ++ codes "block runs instructions sum share\n") ++ flat_map
    (serial_row l.program l.tally) (range_with_len 0 l.number)
