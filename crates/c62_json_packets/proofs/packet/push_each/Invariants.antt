use Rattle.std.proofs.Common.{◌≡◌, ◌++◌, drop}
use Rattle.std.specs.List.{flat_map}
use Rattle.c62_json_packets.specs.Packets.{name_among, instruction}
use Rattle.c62_json_packets.proofs.packet.push_each.Given as goal

abbrev pub invariant-loop-each : goal.invariant-loop-each
invariant-loop-each l =
    (l.out.tokens ++ flat_map (instruction (name_among l.labels)) (drop l.each-index l.issued)
    ≡ l.fn.out.tokens ++ flat_map (instruction (name_among l.labels)) l.issued)
    × (l.out.before ≡ l.fn.out.before)
