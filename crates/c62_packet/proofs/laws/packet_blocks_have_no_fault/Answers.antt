use Rattle.c62_packet.proofs.OneFault.{no-fault}
use Rattle.c62_packet.proofs.laws.packet_blocks_have_no_fault.Goals as goal

pub returns : goal.returns
returns c = no-fault
