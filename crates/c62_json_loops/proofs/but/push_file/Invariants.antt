use Rattle.std.proofs.Common.{◌≡◌, ◌++◌}
use Rattle.std.specs.List.{flat_map, range_with_len}
use Rattle.c62_json_loops.specs.Loops.{name_value}
use Rattle.c62_json_loops.proofs.but.push_file.Given as goal

-- the names below this number are written
abbrev pub invariant-loop-number : goal.invariant-loop-number
invariant-loop-number l =
    (l.out.tokens ≡ l.fn.out.tokens ++ flat_map (name_value l.but l.side) (range_with_len 0 l.number))
    × (l.out.before ≡ l.fn.out.before)
