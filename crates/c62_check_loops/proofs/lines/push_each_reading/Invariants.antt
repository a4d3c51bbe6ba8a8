use Rattle.std.proofs.Common.{◌≡◌, ◌++◌, take}
use Rattle.std.specs.List.{flat_map}
use Rattle.std.specs.Prelude.{slice_get}
use Rattle.c62_check_loops.specs.Lines.{label_in, reading_line}
use Rattle.c62_check_loops.proofs.lines.push_each_reading.Given as goal

abbrev pub invariant-loop-reading : goal.invariant-loop-reading
invariant-loop-reading l = l.out.items ≡ l.fn.out.items
    ++ flat_map (reading_line (label_in (slice_get l.blocks l.number))) (take l.reading-index l.readings)
