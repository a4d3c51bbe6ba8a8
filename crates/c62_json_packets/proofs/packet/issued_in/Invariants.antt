use Rattle.std.proofs.Common.{◌≡◌, ◌++◌, drop}
use Rattle.c62_json_packets.specs.Packets.{issued_in}
use Rattle.c62_json_packets.proofs.packet.issued_in.Given as goal

abbrev pub invariant-loop-each : goal.invariant-loop-each
invariant-loop-each l = l.issued.items ++ issued_in (drop l.each-index l.placed) l.cycle ≡ issued_in l.placed l.cycle
