use Rattle.std.proofs.Common.{◌≡◌, ◌++◌}
use Rattle.std.specs.List.{flat_map, range_with_len}
use Rattle.c62_json_report.specs.Profile.{packet_row}
use Rattle.c62_json_report.proofs.profile.push_packet_blocks.Given as goal

abbrev pub invariant-loop-number : goal.invariant-loop-number
invariant-loop-number l =
    (l.out.tokens ≡ l.fn.out.tokens ++ flat_map (packet_row l.packets l.tally) (range_with_len 0 l.number))
    × (l.out.before ≡ l.fn.out.before)
