use Rattle.std.proofs.Common.{◌≡◌, ◌++◌, drop}
use Rattle.c62_packet.specs.Packets.{labels_of}
use Rattle.c62_traced.proofs.names.names_of_packets.Given as goal

abbrev pub invariant-loop-block : goal.invariant-loop-block
invariant-loop-block l = l.names.items ++ labels_of (drop l.block-index l.packets) ≡ labels_of l.packets
