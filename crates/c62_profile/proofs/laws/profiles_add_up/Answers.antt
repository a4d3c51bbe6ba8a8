use Rattle.std.proofs.Common.{length}
use Rattle.c62_serial.specs.Chain.{serial_blocks}
use Rattle.c62_pipe.specs.Chain.{packet_blocks}
use Rattle.c62_profile.specs.Visits.{cycles_each, insns_each}
use Rattle.c62_profile.proofs.Sums.{adds_up}
use Rattle.c62_profile.proofs.laws.profiles_add_up.Goals as goal

pub returns-clause-packets : goal.returns-clause-packets
returns-clause-packets c packets opening limit chain final tally counts =
    adds_up (length packets) (packet_blocks packets) (cycles_each packets) opening limit chain final tally counts

pub returns-clause-program : goal.returns-clause-program
returns-clause-program c program opening limit chain final tally counts =
    adds_up (length program) (serial_blocks program) (insns_each program) opening limit chain final tally counts
