use Rattle.std.proofs.Common.{◌≡◌, ◌++◌, ◌-◌}
use Rattle.std.specs.List.{flat_map, range_with_len}
use Rattle.c62_json_packets.specs.Packets.{name_among, packet}
use Rattle.c62_json_packets.proofs.packet.push_all.Given as goal

abbrev pub invariant-loop-cycle : goal.invariant-loop-cycle
invariant-loop-cycle l =
    (l.out.tokens ++ flat_map (packet (name_among l.labels) l.placed) (range_with_len l.cycle (l.length - l.cycle))
    ≡ l.fn.out.tokens ++ flat_map (packet (name_among l.labels) l.placed) (range_with_len 0 l.length))
    × (l.out.before ≡ l.fn.out.before)
