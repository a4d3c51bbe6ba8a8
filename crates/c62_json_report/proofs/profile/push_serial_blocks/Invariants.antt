use Rattle.std.proofs.Common.{◌≡◌, ◌++◌}
use Rattle.std.specs.List.{flat_map, range_with_len}
use Rattle.c62_json_report.specs.Profile.{serial_row}
use Rattle.c62_json_report.proofs.profile.push_serial_blocks.Given as goal

abbrev pub invariant-loop-number : goal.invariant-loop-number
invariant-loop-number l =
    (l.out.tokens ≡ l.fn.out.tokens ++ flat_map (serial_row l.program l.tally) (range_with_len 0 l.number))
    × (l.out.before ≡ l.fn.out.before)
