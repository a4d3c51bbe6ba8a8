-- What holds of packets in documents.
use Rattle.std.specs.Prelude.{◌≡◌}
use Rattle.std.specs.List.{flat_map}
use Rattle.c62_packet.specs.Packed.{Packed, IsPacketBlock}
use Rattle.c62_json_packets.specs.Packets.{issued_in, cycles_of}

-- what is issued in the cycles of a packet block, one behind the other, are its instructions
abbrev pub IsWhole : Packed → Type 0
IsWhole block = IsPacketBlock block → flat_map (issued_in block.placed) (cycles_of block) ≡ block.placed
