use Rattle.c62_teach.proofs.Reported.{flight_lines, packet_lines, strict_lines}
use Rattle.c62_teach.proofs.laws.tells_what_is_reported.Goals as goal

pub returns-clause-serial : goal.returns-clause-serial
returns-clause-serial c = λ isa settings course outcome text answer more strict tells report.
    strict_lines isa report.program settings course text more report.reported.opening report.reported.final
    report.reported.chain strict tells report.says report.reported.begin report.reported.run

pub returns-clause-packed : goal.returns-clause-packed
returns-clause-packed c = λ isa packing settings course outcome text answer more strict tells report.
    strict_lines isa report.program settings course text more report.reported.reported.opening
    report.reported.reported.final report.reported.reported.chain strict tells report.says
    report.reported.reported.begin report.reported.serial

pub returns-clause-packets : goal.returns-clause-packets
returns-clause-packets c = packet_lines

pub returns-clause-flight : goal.returns-clause-flight
returns-clause-flight c = flight_lines
