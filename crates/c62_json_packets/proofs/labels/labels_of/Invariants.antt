use Rattle.std.proofs.Common.{◌≡◌, ◌++◌, drop}
use Rattle.c62_packet.specs.Packets.{labels_of}
use Rattle.c62_json_packets.proofs.labels.labels_of.Given as goal

abbrev pub invariant-loop-block : goal.invariant-loop-block
invariant-loop-block l = l.labels.items ++ labels_of (drop l.block-index l.blocks) ≡ labels_of l.blocks
