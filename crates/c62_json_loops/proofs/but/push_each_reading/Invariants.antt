use Rattle.std.proofs.Common.{◌≡◌, ◌++◌, drop}
use Rattle.std.specs.List.{flat_map}
use Rattle.c62_json_loops.specs.Loops.{reading_object}
use Rattle.c62_json_loops.proofs.but.push_each_reading.Given as goal

-- with the objects of the others it is the whole
abbrev pub invariant-loop-reading : goal.invariant-loop-reading
invariant-loop-reading l =
    (l.out.tokens ++ flat_map reading_object (drop l.reading-index l.readings)
    ≡ l.fn.out.tokens ++ flat_map reading_object l.readings)
    × (l.out.before ≡ l.fn.out.before)
