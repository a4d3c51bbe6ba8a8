use Rattle.std.proofs.Common.{◌≡◌, ◌++◌}
use Rattle.std.specs.List.{flat_map, range_with_len}
use Rattle.c62_check_loop.specs.Lines.{name_words}
use Rattle.c62_check_loop.proofs.lines.push_file.Given as goal

abbrev pub invariant-loop-number : goal.invariant-loop-number
invariant-loop-number l = l.out.items ≡ l.fn.out.items ++ flat_map (name_words l.but l.side)
    (range_with_len 0 l.number)
