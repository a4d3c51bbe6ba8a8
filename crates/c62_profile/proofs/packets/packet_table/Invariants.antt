use Rattle.std.proofs.Common.{◌≡◌, ◌++◌}
use Rattle.std.specs.Prelude.{codes}
use Rattle.std.specs.List.{flat_map, range_with_len}
use Rattle.c62_profile.specs.Table.{packet_row}
use Rattle.c62_profile.proofs.packets.packet_table.Given as goal

abbrev pub invariant-loop-number : goal.invariant-loop-number
invariant-loop-number l =
    l.out.items ≡ (l.fn.out.items ++ codes "block runs cycles sum share\n") ++ flat_map (packet_row l.packets l.tally)
    (range_with_len 0 l.number)
