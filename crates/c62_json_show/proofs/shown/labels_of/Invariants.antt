use Rattle.std.proofs.Common.{◌≡◌, ◌++◌, drop}
use Rattle.c62_packet.specs.Packets.{labels_of}
use Rattle.c62_json_show.specs.Shown.{packets_of}
use Rattle.c62_json_show.proofs.shown.labels_of.Given as goal

abbrev pub invariant-loop-each : goal.invariant-loop-each
invariant-loop-each l =
    l.labels.items ++ labels_of (packets_of (drop l.each-index l.shown)) ≡ labels_of (packets_of l.shown)
