use Rattle.std.proofs.Common.{◌≡◌, ◌++◌}
use Rattle.std.specs.List.{flat_map, range_with_len}
use Rattle.c62_check_loops.specs.Reading.{readings_of_register}
use Rattle.c62_check_loops.proofs.reading.push_file.Given as goal

abbrev pub invariant-loop-number : goal.invariant-loop-number
invariant-loop-number l = l.out.items ≡ l.fn.out.items ++ flat_map (readings_of_register l.blocks l.from l.but l.side)
    (range_with_len 0 l.number)
