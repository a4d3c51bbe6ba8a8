use Rattle.std.proofs.Common.{◌≡◌, ◌++◌, drop}
use Rattle.c62_json_packets.specs.Packets.{name_among}
use Rattle.c62_json_show.specs.Shown.{blocks_from}
use Rattle.c62_json_show.proofs.shown.push_each.Given as goal

abbrev pub invariant-loop-each : goal.invariant-loop-each
invariant-loop-each l =
    (l.out.tokens ++ blocks_from (name_among l.labels) l.summary l.number (drop l.each-index l.shown)
    ≡ l.fn.out.tokens ++ blocks_from (name_among l.labels) l.summary 0 l.shown)
    × (l.out.before ≡ l.fn.out.before)
    × (l.number ≡ l.each-index)
