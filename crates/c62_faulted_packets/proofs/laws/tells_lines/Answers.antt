use Rattle.c62_faulted_packets.proofs.Lines.{tells_flight_lines, tells_packet_lines}
use Rattle.c62_faulted_packets.proofs.laws.tells_lines.Goals as goal

pub returns-clause-packets : goal.returns-clause-packets
returns-clause-packets c = λ packets opening limit told chain cycles final sound.
    tells_packet_lines packets opening limit told chain cycles final sound

pub returns-clause-flight : goal.returns-clause-flight
returns-clause-flight c = λ text first limit opening told stop cycles final.
    tells_flight_lines text first limit opening told stop cycles final
