use Rattle.std.proofs.Common.{◌≡◌, ◌++◌, drop}
use Rattle.c62_json_packets.specs.Packets.{name_among, blocks_from}
use Rattle.c62_json_packets.proofs.block.push_each.Given as goal

abbrev pub invariant-loop-each : goal.invariant-loop-each
invariant-loop-each l =
    (l.out.tokens ++ blocks_from (name_among l.labels) l.number (drop l.each-index l.blocks)
    ≡ l.fn.out.tokens ++ blocks_from (name_among l.labels) 0 l.blocks)
    × (l.out.before ≡ l.fn.out.before)
    × (l.number ≡ l.each-index)
